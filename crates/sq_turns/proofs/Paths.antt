-- Paths: an element that a turn reads as it meets it, and the operators behind it.
use Rattle.std.proofs.Common.{◌≡◌, ℕ, suc, max, ◌+◌, ◌*◌, ◌<◌, ◌≤◌, Bool, true, false, List, [], ◌∷◌, ◌++◌, length, take, drop, get_or, Option, Some, None, Result, Ok, ℤ, pos, IfSome, refl, sym, subst, ◌∙◌, ap, arith, take-append-drop, drop-cons}
use denote.Param.Weighed.{most, most-append}
use Rattle.std.specs.List.{All}
use Rattle.std.specs.Int.{int_min, int_max}
use Rattle.std.proofs.lemmas.Int.{ints, clamps}
use Rattle.std.proofs.lemmas.List.{get_or-drop}
use Rattle.std.proofs.lemmas.List.Elements.{All-nil, All-head, All-tail}
use Rattle.std.proofs.Math.Seq.{drop-append_seam, drop-append-add}
use Rattle.sq_num.specs.declared.Elem.{Elem}
use Rattle.sq_num.specs.Elements.{width}
use Rattle.sq_ast.specs.declared.expr.UnOp.{UnOp}
use Rattle.sq_ast.specs.declared.expr.BinOp.{BinOp}
use Rattle.sq_columns.specs.declared.line.Line.{Line}
use Rattle.sq_columns.specs.declared.line.Line.TheVariants.{Same, Ramp, Column}
use Rattle.sq_columns.specs.Lines.{line_at, first_byte, divides}
use Rattle.sq_leaf.specs.declared.trap.Trap.{Trap}
use Rattle.sq_leaf.specs.declared.code.Step.{Step, out-Step}
use Rattle.sq_leaf.specs.Numbers.{is_zero, binary}
use Rattle.sq_leaf.specs.Outcome.{and_then}
use Rattle.sq_leaf.specs.Source as source
use Rattle.sq_leaf.specs.Spots.{load}
use Rattle.sq_leaf.specs.Running.{CodeRun, run_code, run_step, run_each_step}
use Rattle.sq_turns.specs.declared.setting.Setting.{Setting}
use Rattle.sq_deeds.specs.declared.rise.Rise.{Rise}
use Rattle.sq_deeds.specs.declared.deeds.Numbers.{Numbers}
use Rattle.sq_deeds.specs.declared.deeds.Link.{Link}
use Rattle.sq_deeds.specs.declared.deeds.Link.TheVariants.{Unary, Onto, Under, Least, Most, Itself}
use Rattle.sq_turns.specs.declared.values.Hole.{Hole}
use Rattle.sq_deeds.specs.Puts.{LiesIn, IsRise}
use Rattle.sq_turns.specs.Settings.{counters_at, Gives, Follows, value_alone, extreme, extreme_of}
use Rattle.sq_deeds.specs.Deeds.{number_at, byte_at, linked, along_from, along_links, HasColumn, IsRoomy, LinkFits, AreKept}
use Rattle.sq_turns.specs.Values.{AreNumbers, IsCarried, Leads, Starts, IsPath, IsLonger, path_at, extreme_link, unary_of}
use Rattle.sq_turns.proofs.Spotting.{some_after}
use Rattle.sq_turns.proofs.Linking.{linked_is, step_is, next_follows}
use Rattle.sq_deeds.proofs.Rising.{rise_room}

-- ---- lists

pub list_at : {A : Type 0} (xs : List A) (i : ℕ) (x : A) → i < length xs → x ≡ get_or xs i x → drop i xs ≡ x ∷ drop (i + 1) xs
list_at xs i x below e =
    let next : suc i ≡ i + 1 = omega arith in
    drop-cons xs i x below ∙ (ap (λ y. y ∷ drop (suc i) xs) (sym e) ∙ ap (λ (n : ℕ). x ∷ drop n xs) next)

-- a part of a list weighs no more than all of it
pub part_weighs : {A : Type 0} (f : A → ℕ) (xs : List A) (n m : ℕ) → most f (take m (drop n xs)) ≤ most f xs
part_weighs f xs n m =
    let all : most f xs ≡ max (most f (take n xs)) (most f (drop n xs)) = ap (most f) (sym (take-append-drop n xs)) ∙ most-append f (take n xs) (drop n xs) in
    let part : most f (drop n xs) ≡ max (most f (take m (drop n xs))) (most f (drop m (drop n xs))) =
    ap (most f) (sym (take-append-drop m (drop n xs))) ∙ most-append f (take m (drop n xs)) (drop m (drop n xs)) in
    omega (arith, all, part)

-- ---- columns

pub behind_front : (n : ℕ) (all xs ys : List ℤ) → all ≡ xs ++ ys → length xs ≡ n → drop n all ≡ ys
behind_front n all xs ys e size = ap (drop n) e ∙ (ap (λ (k : ℕ). drop k (xs ++ ys)) (sym size) ∙ drop-append_seam xs ys)

pub behind_more : (n m : ℕ) (all xs ys : List ℤ) → all ≡ xs ++ ys → length xs ≡ n → drop (n + m) all ≡ drop m ys
behind_more n m all xs ys e size = ap (drop (n + m)) e ∙ (ap (λ (k : ℕ). drop (k + m) (xs ++ ys)) (sym size) ∙ drop-append-add xs ys m)

pub divides_moved : (o : BinOp) (y : Line) (turns : ℕ) (l : Option Line) (ys zs : List ℤ) → ys ≡ zs
    → IfSome l (λ x. divides o ≡ true → (j : ℕ) → j < turns → is_zero (line_at y ys j) ≡ false) → IfSome l (λ x. divides o ≡ true → (j : ℕ) → j < turns → is_zero (line_at y zs j) ≡ false)
divides_moved o y turns l ys zs e h = some_after l _ _ (λ x g d j below. subst (λ (c : List ℤ). is_zero (line_at y c j) ≡ false) e (g d j below)) h

pub joined_behind : (o : BinOp) (x y : Line) (turns next : ℕ) (l : Option Line) (all front old new : List ℤ) → all ≡ front ++ old → length front ≡ next
    → IfSome l (λ z. (j : ℕ) → j < turns → line_at z new j ≡ binary o (line_at x old j) (line_at y (drop 256 old) j))
    → IfSome l (λ z. (j : ℕ) → j < turns → line_at z (drop next (front ++ new)) j ≡ binary o (line_at x (drop next all) j) (line_at y (drop (next + 256) all) j))
joined_behind o x y turns next l all front old new e size h =
    some_after l _ _
    (λ z g j below.
    ap (λ (c : List ℤ). line_at z c j) (behind_front next (front ++ new) front new refl size)
    ∙ (g j below
    ∙ (ap (λ (c : List ℤ). binary o (line_at x c j) (line_at y (drop 256 old) j)) (sym (behind_front next all front old e size))
    ∙ ap (λ (c : List ℤ). binary o (line_at x (drop next all) j) (line_at y c j)) (sym (behind_more next 256 all front old e size)))))
    h

pub line_kept : (l : Line) (from free : ℕ) (old new : List ℤ) (j : ℕ) → from + 256 ≤ free → AreKept free old new → j < 256 → line_at l (drop from new) j ≡ line_at l (drop from old) j
line_kept (Same x) from free old new j has kept below = refl
line_kept (Ramp a d) from free old new j has kept below = refl
line_kept Column from free old new j has kept below =
    get_or-drop from new j (pos 0) ∙ (kept.same (from + j) (omega arith) ∙ sym (get_or-drop from old j (pos 0)))

number_kept : (free : ℕ) (x : Numbers) (old new : List ℤ) (j : ℕ) → HasColumn free x → AreKept free old new → j < 256 → number_at new x j ≡ number_at old x j
number_kept free x old new j has kept below = line_kept x.line x.from free old new j has kept below

pub kept_then : (k m n : ℕ) (first old new : List ℤ) → k ≤ m → k ≤ n → AreKept m first old → AreKept n old new → AreKept k first new
kept_then k m n first old new one two before after = record {
  size = after.size ∙ before.size;
  same = λ i below. after.same i (omega (arith, below, two)) ∙ before.same i (omega (arith, below, one));
}

-- ---- links

link_kept : (free : ℕ) (l : Link) (old new : List ℤ) (j : ℕ) (e x : ℤ) → LinkFits free l → AreKept free old new → j < 256 → linked new l j e x ≡ linked old l j e x
link_kept free (Unary o) old new j e x fits kept below = refl
link_kept free (Onto o y) old new j e x fits kept below = ap (binary o x) (number_kept free y old new j fits kept below)
link_kept free (Under o y) old new j e x fits kept below = ap (λ (w : ℤ). binary o w x) (number_kept free y old new j fits kept below)
link_kept free (Least y) old new j e x fits kept below = ap (int_min x) (number_kept free y old new j fits kept below)
link_kept free (Most y) old new j e x fits kept below = ap (int_max x) (number_kept free y old new j fits kept below)
link_kept free (Itself o) old new j e x fits kept below = refl

links_kept : (free : ℕ) (ls : List Link) (old new : List ℤ) (j : ℕ) (e x : ℤ) → All (LinkFits free) ls → AreKept free old new → j < 256 → along_from new ls j e x ≡ along_from old ls j e x
links_kept free [] old new j e x fits kept below = refl
links_kept free (l ∷ ls) old new j e x fits kept below =
    ap (along_from new ls j e) (link_kept free l old new j e x (All-head (LinkFits free) l ls fits) kept below)
    ∙ links_kept free ls old new j e (linked old l j e x) (All-tail (LinkFits free) l ls fits) kept below

links_longer : (columns : List ℤ) (ls : List Link) (l : Link) (j : ℕ) (e x : ℤ) → along_from columns (ls ++ l ∷ []) j e x ≡ linked columns l j e (along_from columns ls j e x)
links_longer columns [] l j e x = refl
links_longer columns (k ∷ ls) l j e x = links_longer columns ls l j e (linked columns k j e x)

-- ---- paths

-- the element with which a path begins
abbrev pub path_first : Hole → ℕ → List ℕ → ℤ
path_first h j c = load (record { elem = h.elem; at = byte_at h.read j }) c

path_longer : (size : ℕ) (l : Link) (h : Hole) (ls : List Link) (n : Hole) (more : List Link) → IsLonger size l h ls n more → (columns : List ℤ) (j : ℕ) (c : List ℕ)
    → path_at columns n more j c ≡ linked columns l j (path_first h j c) (path_at columns h ls j c)
path_longer size l h ls n more is columns j c =
    ap (λ (ms : List Link). along_links columns ms j (path_first n j c)) is.items
    ∙ (links_longer columns ls l j (path_first n j c) (path_first n j c)
    ∙ (ap (λ (e : Elem). linked columns l j (load (record { elem = e; at = byte_at n.read j }) c) (along_links columns ls j (load (record { elem = e; at = byte_at n.read j }) c))) is.elem
    ∙ ap (λ (r : Rise). linked columns l j (load (record { elem = h.elem; at = byte_at r j }) c) (along_links columns ls j (load (record { elem = h.elem; at = byte_at r j }) c))) is.read))

path_kept : (t : Setting) (next : ℕ) (h : Hole) (ls : List Link) (old new : List ℤ) → IsPath t next old h ls → AreKept h.free old new → (j : ℕ) (c : List ℕ) → j < 256
    → path_at new h ls j c ≡ path_at old h ls j c
path_kept t next h ls old new path kept j c below = links_kept h.free ls old new j _ _ path.fit kept below

-- ---- an element

pub element_path : (t : Setting) (next : ℕ) (columns : List ℤ) (o : Option Hole) (e : Elem) (spots : Line) (places : List ℤ) (low high : ℕ) (links : List Link)
    → IfSome o (λ h. h.elem ≡ e) → IfSome o (λ h. IsRise h.read spots) → IfSome o (λ h. h.free ≡ next) → ((j : ℕ) → j < t.block.now.turns → LiesIn low high e spots places j) → high ≤ length t.bytes.now
    → links ≡ [] → next ≤ length columns → IfSome o (λ h. IsPath t next columns h links)
element_path t next columns None e spots places low high links elem read free lies within none room = elem
element_path t next columns (Some h) e spots places low high links elem read free lies within none room =
    record {
      room = subst (λ (d : Elem). IsRoomy t.block.now.turns (length t.bytes.now) d h.read) (sym elem) here;
      fit = subst (All (LinkFits h.free)) (sym none) (All-nil (LinkFits h.free));
      after = omega (arith, free);
      within = omega (arith, free, room);
    }
  where
    whole : (j : ℕ) → j < t.block.now.turns → LiesIn 0 (length t.bytes.now) e spots places j
    whole j below =
        let l : LiesIn low high e spots places j = lies j below in
        let end : first_byte spots places j + width e ≤ high = l.ends in
        record { is = l.is; from = omega arith; ends = omega (arith, end, within) }

    here : IsRoomy t.block.now.turns (length t.bytes.now) e h.read
    here = record { near = read.near; slow = read.slow; room = rise_room t.block.now.turns (length t.bytes.now) e spots places h.read read t.few whole }

-- ---- operators

pub unary_leads : (t : Setting) (columns : List ℤ) (op : UnOp) (h : Hole) (ls : List Link) (o : Option Hole) (more : List Link) → IfSome o (λ n. IsLonger (length columns) (Unary op) h ls n more)
    → IfSome o (λ n. Leads t value_alone (unary_of op) columns n more columns h ls)
unary_leads t columns op h ls o more longer =
    some_after o _ _ (λ n is. record { each = λ j c below met. ap Ok (path_longer (length columns) (Unary op) h ls n more is columns j c) }) longer

pub onto_leads : (t : Setting) (next : ℕ) (s : Step) (y : Numbers) (h : Hole) (ls : List Link) (old new : List ℤ) (o : Option Hole) (more : List Link)
    → IsPath t next old h ls → AreKept h.free old new → AreNumbers t (run_code (out-Step s).right) new y
    → IfSome o (λ n. IsLonger (length new) (Onto (out-Step s).op y) h ls n more)
    → IfSome o (λ n. divides (out-Step s).op ≡ true → (j : ℕ) → j < t.block.now.turns → is_zero (number_at new y j) ≡ false)
    → IfSome o (λ n. Leads t value_alone (run_step s) new n more old h ls)
onto_leads t next s y h ls old new None more path kept right longer safe = longer
onto_leads t next s y h ls old new (Some n) more path kept right longer safe = record {
  each = λ j d below met.
      ap Ok (path_longer (length new) (Onto (out-Step s).op y) h ls n more longer new j d
      ∙ ap (λ (w : ℤ). binary (out-Step s).op w (number_at new y j)) (path_kept t next h ls old new path kept j d (omega (arith, below, t.few))))
      ∙ (sym (linked_is (out-Step s).op (out-Step s).place (path_at old h ls j d) (number_at new y j) (λ e. safe e j below))
      ∙ (ap (source.linked (out-Step s).op (out-Step s).place (path_at old h ls j d)) (sym (right.each j d below met))
      ∙ sym (step_is s t.frame.now.views (counters_at t j) d (path_at old h ls j d))));
}

pub itself_leads : (t : Setting) (next : ℕ) (s : Step) (h : Hole) (ls : List Link) (old new : List ℤ) (o : Option Hole) (more : List Link)
    → divides (out-Step s).op ≡ false → IsPath t next old h ls → AreKept h.free old new → IsCarried t (run_code (out-Step s).right) new h []
    → IfSome o (λ n. IsLonger (length new) (Itself (out-Step s).op) h ls n more)
    → IfSome o (λ n. Leads t value_alone (run_step s) new n more old h ls)
itself_leads t next s h ls old new o more whole path kept start longer = some_after o _ _ (λ n is. go n is) longer
  where
    never : (z : Bool) → divides (out-Step s).op ≡ true → z ≡ false
    never z e = cc

    go : (n : Hole) → IsLonger (length new) (Itself (out-Step s).op) h ls n more → Leads t value_alone (run_step s) new n more old h ls
    go n is = record {
      each = λ j d below met.
          ap Ok (path_longer (length new) (Itself (out-Step s).op) h ls n more is new j d
          ∙ ap (λ (w : ℤ). binary (out-Step s).op w (path_first h j d)) (path_kept t next h ls old new path kept j d (omega (arith, below, t.few))))
          ∙ (sym (linked_is (out-Step s).op (out-Step s).place (path_at old h ls j d) (path_first h j d) (λ e. never (is_zero (path_first h j d)) e))
          ∙ (ap (source.linked (out-Step s).op (out-Step s).place (path_at old h ls j d)) (sym (start.each j d below met))
          ∙ sym (step_is s t.frame.now.views (counters_at t j) d (path_at old h ls j d))));
    }

-- a path without operators from the same element
pub start_is : (t : Setting) (f : CodeRun) (columns : List ℤ) (h other : Hole) (links : List Link) → IsCarried t f columns other links → links ≡ []
    → other.elem ≡ h.elem → other.read.at ≡ h.read.at → other.read.step ≡ h.read.step → IsCarried t f columns h []
start_is t f columns h other links is none elem at step = record {
  each = λ j c below met.
      is.each j c below met
      ∙ (ap (λ (ls : List Link). Ok (path_at columns other ls j c)) none ∙ (λ i. Ok (load (record { elem = elem i; at = at i + step i * j }) c)));
}

extreme_is : (columns : List ℤ) (most : Bool) (y : Numbers) (j : ℕ) (e x : ℤ) → linked columns (extreme_link most y) j e x ≡ extreme most x (number_at columns y j)
extreme_is columns true y j e x = refl
extreme_is columns false y j e x = refl

least_swaps : (x y : ℤ) → int_min x y ≡ int_min y x
least_swaps x y = omega (arith, ints, clamps)

most_swaps : (x y : ℤ) → int_max x y ≡ int_max y x
most_swaps x y = omega (arith, ints, clamps)

extreme_swaps : (most : Bool) (x y : ℤ) → extreme most x y ≡ extreme most y x
extreme_swaps true x y = most_swaps x y
extreme_swaps false x y = least_swaps x y

pub onto_extreme_leads : (t : Setting) (next : ℕ) (most : Bool) (f : CodeRun) (y : Numbers) (h : Hole) (ls : List Link) (old new : List ℤ) (l : Link) (o : Option Hole) (more : List Link)
    → IsPath t next old h ls → AreKept h.free old new → AreNumbers t f new y → l ≡ extreme_link most y → IfSome o (λ n. IsLonger (length new) l h ls n more)
    → IfSome o (λ n. Leads t value_alone (extreme_of most f) new n more old h ls)
onto_extreme_leads t next most f y h ls old new l o more path kept right e longer = some_after o _ _ (λ n is. go n is) longer
  where
    go : (n : Hole) → IsLonger (length new) l h ls n more → Leads t value_alone (extreme_of most f) new n more old h ls
    go n is = record {
      each = λ j d below met.
          ap Ok (path_longer (length new) l h ls n more is new j d
          ∙ (ap (λ (k : Link). linked new k j (path_first h j d) (path_at new h ls j d)) e ∙ extreme_is new most y j (path_first h j d) (path_at new h ls j d)
          ∙ ap (λ (w : ℤ). extreme most w (number_at new y j)) (path_kept t next h ls old new path kept j d (omega (arith, below, t.few)))))
          ∙ ap (λ (r : Result ℤ Trap). and_then r (λ w. Ok (extreme most (path_at old h ls j d) w))) (sym (right.each j d below met));
    }

pub under_extreme_starts : (t : Setting) (most : Bool) (f : CodeRun) (x : Numbers) (free : ℕ) (h : Hole) (ls : List Link) (old new : List ℤ) (size : ℕ) (l : Link) (o : Option Hole) (more : List Link)
    → HasColumn free x → AreKept free old new → IsCarried t f new h ls → l ≡ extreme_link most x → IfSome o (λ n. IsLonger size l h ls n more)
    → IfSome o (λ n. Starts t value_alone (extreme_of most f) new n more x.line (drop x.from old))
under_extreme_starts t most f x free h ls old new size l o more has kept carried e longer = some_after o _ _ (λ n is. go n is) longer
  where
    go : (n : Hole) → IsLonger size l h ls n more → Starts t value_alone (extreme_of most f) new n more x.line (drop x.from old)
    go n is = record {
      each = λ j d below met.
          ap Ok (path_longer size l h ls n more is new j d
          ∙ (ap (λ (k : Link). linked new k j (path_first h j d) (path_at new h ls j d)) e ∙ extreme_is new most x j (path_first h j d) (path_at new h ls j d)
          ∙ (extreme_swaps most (path_at new h ls j d) (number_at new x j)
          ∙ ap (λ (w : ℤ). extreme most w (path_at new h ls j d)) (number_kept free x old new j has kept (omega (arith, below, t.few))))))
          ∙ ap (λ (r : Result ℤ Trap). and_then r (λ w. Ok (extreme most (number_at old x j) w))) (sym (carried.each j d below met));
    }

-- the operator's left side is a line
pub under_starts : (t : Setting) (s : Step) (next : ℕ) (x : Line) (left : Numbers) (free : ℕ) (h : Hole) (ls : List Link) (old new : List ℤ) (size : ℕ) (o : Option Hole) (more : List Link)
    → divides (out-Step s).op ≡ false → ((columns : List ℤ) (j : ℕ) → number_at columns left j ≡ line_at x (drop next columns) j) → HasColumn free left → AreKept free old new
    → IsCarried t (run_code (out-Step s).right) new h ls → IfSome o (λ n. IsLonger size (Under (out-Step s).op left) h ls n more)
    → IfSome o (λ n. Starts t value_alone (run_step s) new n more x (drop next old))
under_starts t s next x left free h ls old new size o more whole same has kept carried longer = some_after o _ _ (λ n is. go n is) longer
  where
    never : (z : Bool) → divides (out-Step s).op ≡ true → z ≡ false
    never z e = cc

    go : (n : Hole) → IsLonger size (Under (out-Step s).op left) h ls n more → Starts t value_alone (run_step s) new n more x (drop next old)
    go n is = record {
      each = λ j d below met.
          ap Ok (path_longer size (Under (out-Step s).op left) h ls n more is new j d
          ∙ ap (λ (w : ℤ). binary (out-Step s).op w (path_at new h ls j d)) (number_kept free left old new j has kept (omega (arith, below, t.few)) ∙ same old j))
          ∙ (sym (linked_is (out-Step s).op (out-Step s).place (line_at x (drop next old) j) (path_at new h ls j d) (λ e. never (is_zero (path_at new h ls j d)) e))
          ∙ (ap (source.linked (out-Step s).op (out-Step s).place (line_at x (drop next old) j)) (sym (carried.each j d below met))
          ∙ sym (step_is s t.frame.now.views (counters_at t j) d (line_at x (drop next old) j))));
    }

-- one more operator whose right side is known
pub front_more : (t : Setting) (s : Step) (rest list whole : List Step) (next : ℕ) (x y z first : Line) (start old mid new : List ℤ)
    → list ≡ s ∷ rest → AreKept (next + 256) old mid → Gives t (run_code (out-Step s).right) y (drop (next + 256) mid)
    → ((j : ℕ) → j < t.block.now.turns → line_at z (drop next new) j ≡ binary (out-Step s).op (line_at x (drop next mid) j) (line_at y (drop (next + 256) mid) j))
    → (divides (out-Step s).op ≡ true → (j : ℕ) → j < t.block.now.turns → is_zero (line_at y (drop (next + 256) mid) j) ≡ false)
    → Follows t (run_each_step list) (run_each_step whole) x (drop next old) first start
    → Follows t (run_each_step rest) (run_each_step whole) z (drop next new) first start
front_more t s rest list whole next x y z first start old mid new is kept right joined safe before = record {
  each = λ j d below met.
      ap (λ (r : Result ℤ Trap). and_then r (run_each_step rest t.frame.now.views (counters_at t j) d)) (one.each j d below met)
      ∙ (ap (λ (w : ℤ). run_each_step (s ∷ rest) t.frame.now.views (counters_at t j) d w) (line_kept x next (next + 256) old mid j (omega arith) kept (omega (arith, below, t.few)))
      ∙ (ap (λ (l : List Step). run_each_step l t.frame.now.views (counters_at t j) d (line_at x (drop next old) j)) (sym is) ∙ before.each j d below met));
}
  where
    one : Follows t value_alone (run_step s) z (drop next new) x (drop next mid)
    one = next_follows t s x y (Some z) (drop next mid) (drop (next + 256) mid) (drop next new) right joined safe
