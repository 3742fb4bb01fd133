-- The walks give each buffer that a scope names the place at which it stands on the stack.
use Rattle.std.proofs.Common.{◌≡◌, Bool, true, false, ℕ, zero, suc, ◌+◌, ◌<◌, length, List, [], ◌∷◌, ◌++◌, get_or, set}
use Rattle.std.proofs.Common.{replicate, Option, Some, None, refl, sym, ap, subst, ◌∙◌, arith, if◌then◌else◌, nat_eq}
use Rattle.std.specs.Prelude.{◌==◌, slice_get}
use Rattle.std.proofs.lemmas.Bool.{eqb-true, eqb-false}
use Rattle.std.proofs.lemmas.Bool.Decides.{nat_tests}
use Rattle.std.proofs.lemmas.List.{get_or-set_same, get_or-set_other, length-set, length-replicate}
use Rattle.std.proofs.lemmas.Option.{slice_get_within}
use Rattle.sq_ir.specs.declared.plan.Buffer.{Buffer}
use Rattle.sq_ir.specs.declared.plan.Draft.{Draft}
use Rattle.sq_nests.specs.Nests.{End, Both, Open, Named, named_in}
use Rattle.sq_nests.specs.Stacks.{capped, total, is_at, of_level, those, OnStack, HaveBefore, Lie, AreLaid}
use Rattle.sq_nests.specs.Drafts.{whole, size_in, AllLaid}
use Rattle.sq_store.specs.Named.{Each, EachNamed}
use Rattle.sq_store.specs.Walk.{top_after, set_all, lay, lay_from, offsets_of}
use Rattle.sq_nests.proofs.Chains.{total_append}

pub capped_step : (m n : ℕ) → capped (capped m + n) ≡ capped (m + n)
unfolding capped
capped_step m n = omega arith

capped_zero : 0 ≡ capped 0
unfolding capped
capped_zero = omega arith

-- ---- each buffer that passes the test and that a scope names

module _ (here : ℕ → Bool) (P Q : ℕ → Type 0) (f : (b : ℕ) → here b ≡ true → P b → Q b) where
  each_map : (bs : List ℕ) → Each P (those here bs) → Each Q (those here bs)
  each_map [] h = tt
  each_map (b ∷ bs) h = by (here b) refl (each_map bs) h
    where
      by : (v : Bool) → here b ≡ v → (Each P (those here bs) → Each Q (those here bs))
          → Each P (if v then b ∷ those here bs else those here bs)
          → Each Q (if v then b ∷ those here bs else those here bs)
      by true e g h = (f b e h.0, g h.1)
      by false e g h = g h

  named_map : (n : Named) → EachNamed here P n → EachNamed here Q n
  named_map End h = tt
  named_map (Both a b) h = (named_map a h.0, named_map b h.1)
  named_map (Open bs a) h = (each_map bs h.0, named_map a h.1)

-- ---- one walk

module _ (here : ℕ → Bool) (size : ℕ → ℕ) (before : ℕ → List ℕ) where
  abbrev off : ℕ → ℕ
  off b = capped (total size (before b))

  -- at its place
  abbrev Is : List ℕ → ℕ → Type 0
  Is o b = get_or o b 0 ≡ off b

  -- what is at its place stays there
  abbrev Kept : List ℕ → List ℕ → Type 0
  Kept old new = (b : ℕ) → Is old b → Is new b

  abbrev Room : List ℕ → Type 0
  Room o = (b : ℕ) → here b ≡ true → b < length o

  set_kept : (o : List ℕ) (b top : ℕ) → off b ≡ top → b < length o → Kept o (set o b top)
  set_kept o b top e l c h = go (nat_eq c b) refl
    where
      go : (t : Bool) → nat_eq c b ≡ t → get_or (set o b top) c 0 ≡ off c
      go false g = get_or-set_other o b c top 0 (grind (arith, nat_tests, g)) ∙ h
      go true g = let i : c ≡ b = grind (arith, nat_tests, g) in subst (λ z. get_or (set o b top) z 0 ≡ off z) (sym i)
          (get_or-set_same o b top 0 l ∙ sym e)

  -- what a scope's buffers get
  record IsSet (outer named : List ℕ) (top : ℕ) (old new : List ℕ) : Type 0 where
    top_is : top ≡ capped (total size (outer ++ named))
    kept : Kept old new
    long : length new ≡ length old
    each : Each (Is new) named

  abbrev SetsWell : List ℕ → Type 0
  SetsWell bs = (outer : List ℕ) (top : ℕ) (o : List ℕ) → OnStack before outer (those here bs) → top
      ≡ capped (total size outer) → Room o
      → IsSet outer (those here bs) (top_after here size bs top) o (set_all here size bs top o)

  append_assoc : (xs ys zs : List ℕ) → (xs ++ ys) ++ zs ≡ xs ++ (ys ++ zs)
  append_assoc [] ys zs = refl
  append_assoc (x ∷ xs) ys zs = ap (λ l. x ∷ l) (append_assoc xs ys zs)

  append_none : (xs : List ℕ) → xs ++ [] ≡ xs
  append_none [] = refl
  append_none (x ∷ xs) = ap (λ l. x ∷ l) (append_none xs)

  set_step : (b : ℕ) (more : List ℕ) → SetsWell more → SetsWell (b ∷ more)
  set_step b more ih outer top o h e r = go (here b) refl h
    where
      go : (t : Bool) → here b ≡ t → OnStack before outer (if t then b ∷ those here more else those here more)
          → IsSet outer (if t then b ∷ those here more else those here more)
          (top_after here size more (if t then capped (top + size b) else top)) o
          (set_all here size more (if t then capped (top + size b) else top) (if t then set o b top else o))
      go false g h = ih outer top o h e r
      go true g h = record {
        top_is = rest.top_is ∙ ap (λ z. capped (total size z)) (append_assoc outer (b ∷ []) (those here more));
        kept = λ c q. rest.kept c (set_kept o b top stands (r b g) c q);
        long = rest.long ∙ length-set o b top;
        each = (rest.kept b (get_or-set_same o b top 0 (r b g) ∙ sym stands), rest.each);
      }
        where
          stands : off b ≡ top
          stands = ap (λ z. capped (total size z)) h.0 ∙ sym e

          next : capped (top + size b) ≡ capped (total size (outer ++ b ∷ []))
          next =
              let a = total_append size outer (b ∷ []) in
              let k : total size outer + size b ≡ total size (outer ++ b ∷ []) = omega (arith, a) in
              ap (λ z. capped (z + size b)) e ∙ capped_step (total size outer) (size b) ∙ ap capped k

          rest : IsSet (outer ++ b ∷ []) (those here more) (top_after here size more (capped (top + size b)))
              (set o b top) (set_all here size more (capped (top + size b)) (set o b top))
          rest = ih (outer ++ b ∷ []) (capped (top + size b)) (set o b top) h.1 next
              (λ c q. let w = r c q in let z = length-set o b top in omega (arith, w, z))

  set_is : (bs : List ℕ) → SetsWell bs
  set_is [] outer top o h e r = record {
    top_is = e ∙ ap (λ z. capped (total size z)) (sym (append_none outer));
    kept = λ c k. k;
    long = refl;
    each
        = tt;
  }
  set_is (b ∷ more) outer top o h e r = set_step b more (set_is more) outer top o h e r

  -- what the walk gives
  pub record IsWalked (n : Named) (old new : List ℕ) : Type 0 where
    pub kept : Kept old new
    pub long : length new ≡ length old
    pub named : EachNamed here (Is new) n

  pub walk_is : (n : Named) (outer : List ℕ) (top : ℕ) (o : List ℕ) → HaveBefore here before outer n → top
      ≡ capped (total size outer) → Room o → IsWalked n o (lay here size n top o)
  walk_is End outer top o h e r = record { kept = λ c k. k; long = refl; named = tt }
  walk_is (Both m n) outer top o h e r =
      let x = walk_is m outer top o h.0 e r in
      let long = x.long in
      let y = walk_is n outer top (lay here size m top o) h.1 e (λ b q. let w = r b q in omega (arith, w, long)) in
      record {
        kept = λ c q. y.kept c (x.kept c q);
        long = y.long ∙ long;
        named
            = (
              named_map here (Is (lay here size m top o)) (Is (lay here size n top (lay here size m top o)))
                  (λ b q. y.kept b) m x.named,
              y.named,
            );
      }
  walk_is (Open bs n) outer top o h e r =
      let x = set_is bs outer top o h.0 e r in
      let long = x.long in
      let y = walk_is n (outer ++ those here bs) (top_after here size bs top) (set_all here size bs top o) h.1 x.top_is
      (λ b q. let w = r b q in omega (arith, w, long)) in
      record {
        kept = λ c q. y.kept c (x.kept c q);
        long = y.long ∙ long;
        named
            = (
              each_map here (Is (set_all here size bs top o))
                  (Is (lay here size n (top_after here size bs top) (set_all here size bs top o))) (λ b q. y.kept b) bs x.each,
              y.named,
            );
      }

  -- buffers that don't pass the test stay where they are
  set_others : (bs : List ℕ) (top : ℕ) (o : List ℕ) (c : ℕ) → here c ≡ false → get_or (set_all here size bs top o) c 0
      ≡ get_or o c 0
  set_others [] top o c h = refl
  set_others (b ∷ bs) top o c h = by (here b) refl (set_others bs)
    where
      by : (v : Bool) → here b ≡ v →
          ((top : ℕ) (o : List ℕ) (c : ℕ) → here c ≡ false → get_or (set_all here size bs top o) c 0 ≡ get_or o c 0)
          → get_or (set_all here size bs (if v then capped (top + size b) else top) (if v then set o b top else o)) c 0
          ≡ get_or o c 0
      by false e f = f top o c h
      by true e f = f (capped (top + size b)) (set o b top) c h
          ∙ get_or-set_other o b c top 0 (λ q. absurd (let z : true ≡ false = sym e ∙ ap here (sym q) ∙ h in cc))

  pub walk_others : (n : Named) (top : ℕ) (o : List ℕ) (c : ℕ) → here c ≡ false → get_or (lay here size n top o) c 0
      ≡ get_or o c 0
  walk_others End top o c h = refl
  walk_others (Both m n) top o c h = walk_others n top (lay here size m top o) c h ∙ walk_others m top o c h
  walk_others (Open bs n) top o c h = walk_others n (top_after here size bs top) (set_all here size bs top o) c h
      ∙ set_others bs top o c h

  set_long : (bs : List ℕ) (top : ℕ) (o : List ℕ) → length (set_all here size bs top o) ≡ length o
  set_long [] top o = refl
  set_long (b ∷ bs) top o = by (here b) (set_long bs)
    where
      by : (v : Bool) → ((top : ℕ) (o : List ℕ) → length (set_all here size bs top o) ≡ length o)
          → length (set_all here size bs (if v then capped (top + size b) else top) (if v then set o b top else o))
          ≡ length o
      by false f = f top o
      by true f = f (capped (top + size b)) (set o b top) ∙ length-set o b top

  pub walk_long : (n : Named) (top : ℕ) (o : List ℕ) → length (lay here size n top o) ≡ length o
  walk_long End top o = refl
  walk_long (Both m n) top o = walk_long n top (lay here size m top o) ∙ walk_long m top o
  walk_long (Open bs n) top o = walk_long n (top_after here size bs top) (set_all here size bs top o)
      ∙ set_long bs top o

  -- ---- from places on the stack to buffers that lie behind one another

  lie : (offset : ℕ → ℕ) (bs outer : List ℕ) → OnStack before outer bs → Each (λ b. offset b ≡ off b) bs
      → Lie offset size (total size outer) bs
  lie offset [] outer h k = tt
  lie offset (b ∷ bs) outer h k =
      let a = total_append size outer (b ∷ []) in
      let e : total size (outer ++ b ∷ []) ≡ total size outer + size b = omega (arith, a) in (
        k.0 ∙ ap (λ z. capped (total size z)) h.0,
        subst (λ z. Lie offset size z bs) e
            (lie offset bs (outer ++ b ∷ []) h.1 k.1),
      )

  pub are_laid : (offset : ℕ → ℕ) (n : Named) (outer : List ℕ) → HaveBefore here before outer n
      → EachNamed here (λ b. offset b ≡ off b) n → AreLaid here offset size (total size outer) n
  are_laid offset End outer h k = tt
  are_laid offset (Both a b) outer h k = (are_laid offset a outer h.0 k.0, are_laid offset b outer h.1 k.1)
  are_laid offset (Open bs a) outer h k = (
    lie offset (those here bs) outer h.0 k.0,
    subst (λ z. AreLaid here offset size z a)
        (total_append size outer (those here bs)) (are_laid offset a (outer ++ those here bs) h.1 k.1),
  )

-- ---- level after level

module _ (buffers : List Buffer) (before : ℕ → List ℕ) (n : Named) where
  is_there : (level b : ℕ) → of_level buffers level b ≡ true → b < length buffers
  is_there level b h = go (slice_get buffers b) refl h
    where
      go : (o : Option Buffer) → slice_get buffers b ≡ o → is_at level o ≡ true → b < length buffers
      go None e g = absurd (let z = g in cc)
      go (Some x) e g = slice_get_within buffers b x e

  -- a buffer has one level
  one_level : (l k b : ℕ) → (l ≡ k → ⊥) → of_level buffers l b ≡ true → of_level buffers k b ≡ false
  one_level l k b ne h = go (slice_get buffers b) h
    where
      go : (o : Option Buffer) → is_at l o ≡ true → is_at k o ≡ false
      go None g = refl
      go (Some x) g = by (x.level == k) refl
        where
          by : (v : Bool) → (x.level == k) ≡ v → v ≡ false
          by true e = absurd (ne (sym (eqb-true x.level l g) ∙ eqb-true x.level k e))
          by false e = refl

  abbrev Right : ℕ → List ℕ → Type 0
  Right level o = EachNamed (of_level buffers level) (λ b. get_or o b 0 ≡ capped (total (size_in buffers) (before b))) n

  pub from_is : (count level : ℕ) (o : List ℕ) → ((l : ℕ) → HaveBefore (of_level buffers l) before [] n) → length o
      ≡ length buffers → ((l : ℕ) → l < level → Right l o)
      → (l : ℕ) → l < level + count → Right l (lay_from buffers n count level o)
  from_is zero level o h long r l le = r l (omega (arith, le))
  from_is (suc k) level o h long r l le =
      let here = of_level buffers level in
      let new = lay here (size_in buffers) n 0 o in
      let zero_is : 0 ≡ capped 0 = capped_zero in
      let w = walk_is here (size_in buffers) before n [] 0 o (h level) zero_is
      (λ b q. let z = is_there level b q in omega (arith, z, long)) in
      from_is k (suc level) new h (w.long ∙ long) (λ m lt. next m lt (m == level) refl w.named (r m)) l
      (omega (arith, le))
    where
      next : (m : ℕ) → m < suc level → (v : Bool) → (m == level) ≡ v
          → Right level (lay (of_level buffers level) (size_in buffers) n 0 o) → (m < level → Right m o)
          → Right m (lay (of_level buffers level) (size_in buffers) n 0 o)
      next m lt true e w r = subst (λ z. Right z (lay (of_level buffers level) (size_in buffers) n 0 o))
          (sym (eqb-true m level e)) w
      next m lt false e w r =
          let ne = eqb-false m level e in
          named_map (of_level buffers m) (λ b. get_or o b 0 ≡ capped (total (size_in buffers) (before b)))
          (λ b. get_or (lay (of_level buffers level) (size_in buffers) n 0 o) b 0
          ≡ capped (total (size_in buffers) (before b)))
          (λ b q i. walk_others (of_level buffers level) (size_in buffers) before n 0 o b (one_level m level b ne q)
          ∙ i) n (r (omega (arith, ne, lt)))

-- each buffer of a level lies where those that it stands behind end
pub offsets_are : (d : Draft) (before : ℕ → List ℕ)
    → ((l : ℕ) → HaveBefore (of_level d.buffers l) before [] (named_in (whole d))) → (level : ℕ) → level < 8
    → EachNamed (of_level d.buffers level)
    (λ b. get_or (offsets_of d) b 0 ≡ capped (total (size_in d.buffers) (before b))) (named_in (whole d))
offsets_are d before h level lt
    = from_is d.buffers before (named_in (whole d)) 8 0 (replicate (length d.buffers) 0) h
    (length-replicate (length d.buffers) 0) (λ l z. absurd (omega (arith, z))) level (omega (arith, lt))

pub all_laid : (d : Draft) (before : ℕ → List ℕ)
    → ((l : ℕ) → HaveBefore (of_level d.buffers l) before [] (named_in (whole d))) → AllLaid d (offsets_of d)
all_laid d before h level lt =
    let n = named_in (whole d) in
    let r = from_is d.buffers before n 8 0 (replicate (length d.buffers) 0) h (length-replicate (length d.buffers) 0)
    (λ l z. absurd (omega (arith, z))) level (omega (arith, lt)) in
    are_laid (of_level d.buffers level) (size_in d.buffers) before (λ b. get_or (offsets_of d) b 0) n [] (h level) r

pub from_long : (buffers : List Buffer) (n : Named) (count level : ℕ) (o : List ℕ)
    → length (lay_from buffers n count level o) ≡ length o
from_long buffers n zero level o = refl
from_long buffers n (suc k) level o
    = from_long buffers n k (suc level) (lay (of_level buffers level) (size_in buffers) n 0 o)
    ∙ walk_long (of_level buffers level) (size_in buffers) (λ b. []) n 0 o
