-- What a reader does up to a token, whatever tokens stand behind it: before the token it has read its phrase, or it
-- refuses the token, or the token opens a level too many. What stands before is its phrase, or begins it.
use Rattle.std.proofs.Common.{◌≡◌, ◌≢◌, ℕ, zero, suc, ◌≤◌, Bool, true, false, if◌then◌else◌, List, [], ◌∷◌, ◌++◌, length, Option, Some, None, Ok, Err, refl, sym, ◌∙◌, ap, subst, append_assoc, length-append, arith}
use Rattle.sq_text.specs.declared.place.Place.{Place}
use Rattle.sq_lexer.specs.declared.token.Token.{Token}
use Rattle.sq_lexer.specs.declared.token.Kind.{Kind}
use Rattle.sq_lexer.specs.declared.token.Kind.TheVariants as tk
use Rattle.sq_lexer.specs.declared.token.Sign.{Sign}
use Rattle.sq_lexer.specs.declared.token.Sign.TheVariants as g
use Rattle.sq_lexer.specs.Tokens.{token, HasEnd}
use Rattle.sq_ast.specs.Grammar.{if_some}
use Rattle.sq_reader.specs.declared.error.ParseError.TheVariants.{Syntax, TooDeep}
use Rattle.sq_plantext.specs.Grammar.{Leveled, at, tokens_of}
use Rattle.sq_planread.specs.Reading.{Outcome, Reader, and_then, place, nowhere, is_word, is_sign, sees_sign, expect_word, expect_sign, expect_some, opening, deeper, many_from, many_after, separated, after_comma}
use Rattle.sq_planread.proofs.Found.{signed, worded}
use Rattle.sq_planread.proofs.Complete.{tokens_append}

-- ---- phrases between the tokens before them and those behind them

abbrev pub Rel : Type 1
Rel = List Leveled → List Leveled → Type 0

pub data Both (R S : Rel) : List Leveled → List Leveled → Type 0 where
  both : {I K J : List Leveled} → R I K → S K J → Both R S I J

pub data Nothing : List Leveled → List Leveled → Type 0 where
  nothing : {J : List Leveled} → Nothing J J

pub data Star (R : Rel) : List Leveled → List Leveled → Type 0 where
  no_more : {J : List Leveled} → Star R J J
  one_more : {I K J : List Leveled} → R I K → Star R K J → Star R I J

-- a token of this kind
pub data Fixed (k : Kind) (d : ℕ) : List Leveled → List Leveled → Type 0 where
  fixed : {p : _} {J : List Leveled} → Fixed k d (at k p d ∷ J) J

-- a token for which the table has a value
pub data OfTable {A : Type 0} (table : Kind → Option A) (d : ℕ) : List Leveled → List Leveled → Type 0 where
  of_table : {k : Kind} {p : _} {a : A} {J : List Leveled} → table k ≡ Some a → OfTable table d (at k p d ∷ J) J

-- ---- tokens that are a phrase, and those that begin one

-- the last token is an end
abbrev pub Ended : List Token → Type 0
Ended [] = ⊥
Ended (t ∷ []) = t.kind ≡ tk.End
Ended (t ∷ u ∷ ts) = Ended (u ∷ ts)

pub end_last : (ts : List Token) → HasEnd ts → Ended ts
end_last [] h = absurd h
end_last (t ∷ []) h = h
end_last (t ∷ u ∷ ts) h = end_last (u ∷ ts) h.1

pub record Whole (R : Rel) (ts : List Token) : Type 0 where
  pub front : List Leveled
  pub tokens : tokens_of front ≡ ts
  pub part : (J : List Leveled) → R (front ++ J) J

pub record Begins (R : Rel) (ts : List Token) : Type 0 where
  pub front : List Leveled
  pub more : List Leveled
  pub tokens : tokens_of front ≡ ts
  pub part : (J : List Leveled) → R (front ++ (more ++ J)) J

-- the phrase can be given
pub record Given (R : Rel) : Type 0 where
  pub front : List Leveled
  pub part : (J : List Leveled) → R (front ++ J) J

pub given_both : {R S : Rel} → Given R → Given S → Given (Both R S)
given_both {R = R} {S = S} a b = record {
  front = a.front ++ b.front;
  part = λ J. both (subst (λ I. R I (b.front ++ J)) (sym (append_assoc a.front b.front J)) (a.part (b.front ++ J))) (b.part J);
}

pub given_as : {R S : Rel} → ((I J : List Leveled) → R I J → S I J) → Given R → Given S
given_as f a = record { front = a.front; part = λ J. f _ J (a.part J) }

pub given_nothing : Given Nothing
given_nothing = record { front = []; part = λ J. nothing }

pub given_fixed : (k : Kind) (d : ℕ) → Given (Fixed k d)
given_fixed k d = record { front = at k nowhere d ∷ []; part = λ J. fixed }

pub given_table : {A : Type 0} (table : Kind → Option A) (d : ℕ) (k : Kind) (a : A) → table k ≡ Some a → Given (OfTable table d)
given_table table d k a e = record { front = at k nowhere d ∷ []; part = λ J. of_table e }

pub given_star : {R : Rel} → Given (Star R)
given_star = record { front = []; part = λ J. no_more }

pub given_begins : {R : Rel} → Given R → Begins R []
given_begins a = record { front = []; more = a.front; tokens = refl; part = a.part }

-- ---- what a reader does

pub data Way : Type 0 where
  Reads : Way
  Refuses : Way
  Opens : Way

-- the outcome, where these are left
abbrev pub Ends : {A : Type 0} → Way → List Token → Outcome A → Type 0
Ends {A} Reads rest o = (a : A) × (o ≡ Ok (a, rest))
Ends Refuses rest o = o ≡ Err (Syntax (length rest))
Ends Opens rest o = o ≡ Err (TooDeep (length rest))

-- what the tokens up to the first that is left are
pub data Told (R : Rel) : Way → List Token → Token → Type 0 where
  whole : {front : List Token} {next : Token} → Whole R front → Told R Reads front next
  begun : {front : List Token} {next : Token} → Begins R front → Told R Refuses front next
  opened : {front : List Token} {next : Token} → Begins R (front ++ next ∷ []) → Told R Opens front next

-- Readers that do not differ in where they stop: for each x, whatever stands behind the first token that is left. What
-- they read is at least m tokens long.
pub record Stops {X A : Type 0} (m : ℕ) (R : Rel) (f : X → Reader A) (i : List Token) : Type 0 where
  pub way : Way
  pub front : List Token
  pub next : Token
  pub later : List Token
  pub is : i ≡ front ++ next ∷ later
  pub last : Ended (next ∷ later)
  pub moves : way ≡ Reads → m ≤ length front
  pub says : (x : X) (more : List Token) → Ends way (next ∷ more) (f x (front ++ next ∷ more))
  pub told : Told R way front next

-- ---- changes

begins_as : {R S : Rel} {ts : List Token} → ((I J : List Leveled) → R I J → S I J) → Begins R ts → Begins S ts
begins_as f h = record { front = h.front; more = h.more; tokens = h.tokens; part = λ J. f _ J (h.part J) }

told_as : {R S : Rel} {w : Way} {front : List Token} {next : Token} → ((I J : List Leveled) → R I J → S I J) → Told R w front next → Told S w front next
told_as f (whole h) = whole (record { front = h.front; tokens = h.tokens; part = λ J. f _ J (h.part J) })
told_as f (begun h) = begun (begins_as f h)
told_as f (opened h) = opened (begins_as f h)

pub stops_as : {X A : Type 0} {m : ℕ} {R S : Rel} {f : X → Reader A} {i : List Token} → ((I J : List Leveled) → R I J → S I J) → Stops m R f i → Stops m S f i
stops_as g h = record { way = h.way; front = h.front; next = h.next; later = h.later; is = h.is; last = h.last; moves = h.moves; says = h.says; told = told_as g h.told }

ends_alike : {A : Type 0} {r s : Outcome A} (w : Way) (rest : List Token) → s ≡ r → Ends w rest r → Ends w rest s
ends_alike Reads rest e h = (h.0, e ∙ h.1)
ends_alike Refuses rest e h = e ∙ h
ends_alike Opens rest e h = e ∙ h

pub stops_alike : {X A : Type 0} {m : ℕ} {R : Rel} {f g : X → Reader A} {i : List Token} → ((x : X) (i : List Token) → g x i ≡ f x i) → Stops m R f i → Stops m R g i
stops_alike e h = record {
  way = h.way;
  front = h.front;
  next = h.next;
  later = h.later;
  is = h.is;
  last = h.last;
  moves = h.moves;
  says = λ x more. ends_alike h.way (h.next ∷ more) (e x (h.front ++ h.next ∷ more)) (h.says x more);
  told = h.told;
}

pub loosen : {X A : Type 0} {m : ℕ} {R : Rel} {f : X → Reader A} {i : List Token} → Stops m R f i → Stops 0 R f i
loosen h = record { way = h.way; front = h.front; next = h.next; later = h.later; is = h.is; last = h.last; moves = λ e. omega arith; says = h.says; told = h.told }

-- for other families of the same readers
pub stops_for : {X Y A : Type 0} {m : ℕ} {R : Rel} {f : X → Reader A} {i : List Token} (g : Y → X) → Stops m R f i → Stops m R (λ y. f (g y)) i
stops_for g h = record { way = h.way; front = h.front; next = h.next; later = h.later; is = h.is; last = h.last; moves = h.moves; says = λ y more. h.says (g y) more; told = h.told }

-- ---- nothing

pub stops_now : {X A : Type 0} (f : X → A) (t : Token) (ts : List Token) → Ended (t ∷ ts) → Stops 0 Nothing (λ x i. Ok (f x, i)) (t ∷ ts)
stops_now f t ts last = record { way = Reads; front = []; next = t; later = ts; is = refl; last = last; moves = λ e. omega arith; says = λ x more. (f x, refl); told = whole (record { front = []; tokens = refl; part = λ J. nothing }) }

pub stops_pure : {X A : Type 0} (f : X → A) (i : List Token) → Ended i → Stops 0 Nothing (λ x i. Ok (f x, i)) i
stops_pure f [] last = absurd last
stops_pure f (t ∷ ts) last = stops_now f t ts last

-- ---- the token that is left

-- the first of a list and of what is left of it
pub same_first : (front : List Token) (next t : Token) (later ts more : List Token) → t ∷ ts ≡ front ++ next ∷ later → (rest : List Token) × (front ++ next ∷ more ≡ t ∷ rest)
same_first [] next t later ts more e = let first : t ≡ next = cc in (more, ap (λ t. t ∷ more) (sym first))
same_first (u ∷ front) next t later ts more e = let first : t ≡ u = cc in (front ++ next ∷ more, ap (λ t. t ∷ (front ++ next ∷ more)) (sym first))

-- ---- one after another

begins_both : {R S : Rel} → Given S → (ts : List Token) → Begins R ts → Begins (Both R S) ts
begins_both {R = R} c ts b = record {
  front = b.front;
  more = b.more ++ c.front;
  tokens = b.tokens;
  part = λ J. both (subst (λ I. R I (c.front ++ J)) (sym (ap (λ x. b.front ++ x) (append_assoc b.more c.front J))) (b.part (c.front ++ J))) (c.part J);
}

both_tokens : (ts us : List Token) (a b : List Leveled) → tokens_of a ≡ ts → tokens_of b ≡ us → tokens_of (a ++ b) ≡ ts ++ us
both_tokens ts us a b e h = tokens_append a b ∙ ap (λ x. x ++ tokens_of b) e ∙ ap (λ x. ts ++ x) h

whole_both : {R S : Rel} (ts us : List Token) → Whole R ts → Whole S us → Whole (Both R S) (ts ++ us)
whole_both {R = R} ts us a b = record {
  front = a.front ++ b.front;
  tokens = both_tokens ts us a.front b.front a.tokens b.tokens;
  part = λ J. both (subst (λ I. R I (b.front ++ J)) (sym (append_assoc a.front b.front J)) (a.part (b.front ++ J))) (b.part J);
}

then_begins : {R S : Rel} (ts us : List Token) → Whole R ts → Begins S us → Begins (Both R S) (ts ++ us)
then_begins {R = R} ts us a b = record {
  front = a.front ++ b.front;
  more = b.more;
  tokens = both_tokens ts us a.front b.front a.tokens b.tokens;
  part = λ J. both (subst (λ I. R I (b.front ++ (b.more ++ J))) (sym (append_assoc a.front b.front (b.more ++ J))) (a.part (b.front ++ (b.more ++ J)))) (b.part J);
}

then_told : {R S : Rel} {w : Way} {us : List Token} {u : Token} (ts : List Token) → Whole R ts → Told S w us u → Told (Both R S) w (ts ++ us) u
then_told {us = us} ts a (whole b) = whole (whole_both ts us a b)
then_told {us = us} ts a (begun b) = begun (then_begins ts us a b)
then_told {R = R} {S = S} {us = us} {u = u} ts a (opened b) = opened (subst (Begins (Both R S)) (sym (append_assoc ts us (u ∷ []))) (then_begins ts (us ++ u ∷ []) a b))

first_told : {R S : Rel} {w : Way} {front : List Token} {next : Token} → w ≢ Reads → Given S → Told R w front next → Told (Both R S) w front next
first_told apart c (whole a) = absurd (apart refl)
first_told {front = front} apart c (begun a) = begun (begins_both c front a)
first_told {front = front} {next = next} apart c (opened a) = opened (begins_both c (front ++ next ∷ []) a)

-- an outcome on which nothing is read
passed_on : {A B : Type 0} (w : Way) (r : Outcome A) (f : A → Reader B) (rest : List Token) → w ≢ Reads → Ends w rest r → Ends w rest (and_then r f)
passed_on Reads r f rest apart e = absurd (apart refl)
passed_on Refuses r f rest apart e = ap (λ r. and_then r f) e
passed_on Opens r f rest apart e = ap (λ r. and_then r f) e

module _ {X A B : Type 0} (f : X → Reader A) (g : X → A → Reader B) where
  fails_first : {m : ℕ} {R S : Rel} {i : List Token} (way : Way) → way ≢ Reads → Given S → (front : List Token) (next : Token) (later : List Token) → i ≡ front ++ next ∷ later → Ended (next ∷ later)
      → ((x : X) (more : List Token) → Ends way (next ∷ more) (f x (front ++ next ∷ more))) → Told R way front next → Stops m (Both R S) (λ x i. and_then (f x i) (g x)) i
  fails_first way apart c front next later is last says told = record {
    way = way;
    front = front;
    next = next;
    later = later;
    is = is;
    last = last;
    moves = λ e. absurd (apart e);
    says = λ x more. passed_on way (f x (front ++ next ∷ more)) (g x) (next ∷ more) apart (says x more);
    told = first_told apart c told;
  }

  reads_first : {m n : ℕ} {R S : Rel} {i : List Token} (front : List Token) (next : Token) (later : List Token) → i ≡ front ++ next ∷ later → m ≤ length front
      → ((x : X) (more : List Token) → Ends Reads (next ∷ more) (f x (front ++ next ∷ more))) → Whole R front
      → Stops n S (λ (p : X × A). g p.0 p.1) (next ∷ later) → Stops m (Both R S) (λ x i. and_then (f x i) (g x)) i
  reads_first front next later is moves says told k = record {
    way = k.way;
    front = front ++ k.front;
    next = k.next;
    later = k.later;
    is = is ∙ ap (λ x. front ++ x) k.is ∙ sym (append_assoc front k.front (k.next ∷ k.later));
    last = k.last;
    moves = λ e. omega (arith, moves, length-append front k.front);
    says = λ x more.
        let s = same_first k.front k.next next k.later later more k.is in
        let r = says x s.0 in
        let read : f x ((front ++ k.front) ++ k.next ∷ more) ≡ Ok (r.0, k.front ++ k.next ∷ more) =
        ap (f x) (append_assoc front k.front (k.next ∷ more) ∙ ap (λ y. front ++ y) s.1) ∙ r.1 ∙ ap (λ y. Ok (r.0, y)) (sym s.1) in
        ends_alike k.way (k.next ∷ more) (ap (λ r. and_then r (g x)) read) (k.says (x, r.0) more);
    told = then_told front told k.told;
  }

  by_way : {m n : ℕ} {R S : Rel} {i : List Token} (way : Way) → Given S → (front : List Token) (next : Token) (later : List Token) → i ≡ front ++ next ∷ later → Ended (next ∷ later) → (way ≡ Reads → m ≤ length front)
      → ((x : X) (more : List Token) → Ends way (next ∷ more) (f x (front ++ next ∷ more))) → Told R way front next
      → Stops n S (λ (p : X × A). g p.0 p.1) (next ∷ later) → Stops m (Both R S) (λ x i. and_then (f x i) (g x)) i
  by_way Reads c front next later is last moves says (whole told) k = reads_first front next later is (moves refl) says told k
  by_way Refuses c front next later is last moves says told k = fails_first Refuses (λ e. cc) c front next later is last says told
  by_way Opens c front next later is last moves says told k = fails_first Opens (λ e. cc) c front next later is last says told

  pub after : {m n : ℕ} {R S : Rel} → Given S → (i : List Token) → Stops m R f i → ((j : List Token) → Ended j → Stops n S (λ (p : X × A). g p.0 p.1) j) → Stops m (Both R S) (λ x i. and_then (f x i) (g x)) i
  after c i h k = by_way h.way c h.front h.next h.later h.is h.last h.moves h.says h.told (k (h.next ∷ h.later) h.last)

pub then_ : {X A B : Type 0} {m n : ℕ} {R S : Rel} {f : X → Reader A} (g : X → A → Reader B) (i : List Token) → Given S → Stops m R f i → ((j : List Token) → Ended j → Stops n S (λ (p : X × A). g p.0 p.1) j)
    → Stops m (Both R S) (λ x i. and_then (f x i) (g x)) i
then_ {f = f} g i c h k = after f g c i h k

-- ---- one or another, as the first token says

-- what the first token alone tells
abbrev pub OfFirst : (List Token → Bool) → Type 0
OfFirst test = (t : Token) (u v : List Token) → test (t ∷ u) ≡ test (t ∷ v)

same_test : (test : List Token → Bool) → OfFirst test → (i : List Token) (front : List Token) (u : Token) (later more : List Token) → Ended i → i ≡ front ++ u ∷ later → test (front ++ u ∷ more) ≡ test i
same_test test first [] front u later more last e = absurd last
same_test test first (t ∷ ts) front u later more last e = let s = same_first front u t later ts more e in ap test s.1 ∙ first t s.0 ts

pub either : {X A : Type 0} {m : ℕ} {R : Rel} (test : List Token → Bool) → OfFirst test → (f g : X → Reader A) (i : List Token) → Ended i → (test i ≡ true → Stops m R f i) → (test i ≡ false → Stops m R g i)
    → Stops m R (λ x i. if test i then f x i else g x i) i
either {X = X} {m = m} {R = R} test first f g i last on_true on_false = by_test (test i) refl
  where
    by_test : (b : Bool) → test i ≡ b → Stops m R (λ x i. if test i then f x i else g x i) i
    by_test true e = let h = on_true e in record {
      way = h.way;
      front = h.front;
      next = h.next;
      later = h.later;
      is = h.is;
      last = h.last;
      moves = h.moves;
      says = λ x more. ends_alike h.way (h.next ∷ more) (ap (λ b. if b then f x (h.front ++ h.next ∷ more) else g x (h.front ++ h.next ∷ more)) (same_test test first i h.front h.next h.later more last h.is ∙ e)) (h.says x more);
      told = h.told;
    }
    by_test false e = let h = on_false e in record {
      way = h.way;
      front = h.front;
      next = h.next;
      later = h.later;
      is = h.is;
      last = h.last;
      moves = h.moves;
      says = λ x more. ends_alike h.way (h.next ∷ more) (ap (λ b. if b then f x (h.front ++ h.next ∷ more) else g x (h.front ++ h.next ∷ more)) (same_test test first i h.front h.next h.later more last h.is ∙ e)) (h.says x more);
      told = h.told;
    }

-- ---- single tokens

-- what stands behind a token that is not the end
pub behind : (t : Token) (ts : List Token) → Ended (t ∷ ts) → t.kind ≢ tk.End → Ended ts
behind t [] last apart = absurd (apart last)
behind t (u ∷ ts) last apart = last

-- a token that is read in any case
pub skips : {X A : Type 0} {m : ℕ} {R : Rel} {f : X → Reader A} (g : X → Reader A) (k : Kind) (d : ℕ) (t : Token) (ts : List Token) → t.kind ≡ k → ((x : X) (u : List Token) → f x (t ∷ u) ≡ g x u)
    → Stops m R g ts → Stops 1 (Both (Fixed k d) R) f (t ∷ ts)
skips {R = R} {f = f} g k d t ts e same h = record {
  way = h.way;
  front = t ∷ h.front;
  next = h.next;
  later = h.later;
  is = ap (λ ts. t ∷ ts) h.is;
  last = h.last;
  moves = λ e. omega arith;
  says = λ x more. ends_alike h.way (h.next ∷ more) (same x (h.front ++ h.next ∷ more)) (h.says x more);
  told = told_on h.told;
}
  where
    same_token : (a : List Leveled) (us : List Token) → tokens_of a ≡ us → tokens_of (at k t.place d ∷ a) ≡ t ∷ us
    same_token a us q = ap (λ k. token k t.place ∷ tokens_of a) (sym e) ∙ ap (λ x. t ∷ x) q

    told_on : {w : Way} {front : List Token} {next : Token} → Told R w front next → Told (Both (Fixed k d) R) w (t ∷ front) next
    told_on (whole a) = whole (record { front = at k t.place d ∷ a.front; tokens = same_token a.front _ a.tokens; part = λ J. both fixed (a.part J) })
    told_on (begun a) = begun (record { front = at k t.place d ∷ a.front; more = a.more; tokens = same_token a.front _ a.tokens; part = λ J. both fixed (a.part J) })
    told_on (opened a) = opened (record { front = at k t.place d ∷ a.front; more = a.more; tokens = same_token a.front _ a.tokens; part = λ J. both fixed (a.part J) })

pub refused_at : {X A : Type 0} {m : ℕ} {R : Rel} {f : X → Reader A} (t : Token) (ts : List Token) → Ended (t ∷ ts) → ((x : X) (u : List Token) → f x (t ∷ u) ≡ Err (Syntax (length (t ∷ u)))) → Given R
    → Stops m R f (t ∷ ts)
refused_at t ts last e a = record { way = Refuses; front = []; next = t; later = ts; is = refl; last = last; moves = λ e. absurd (cc); says = e; told = begun (given_begins a) }

-- a token that has what is looked for
pub read_at : {X A : Type 0} {R : Rel} {f : X → Reader A} (a : A) (t : Token) (ts : List Token) → Ended ts → ((x : X) (u : List Token) → f x (t ∷ u) ≡ Ok (a, u)) → Whole R (t ∷ []) → Stops 1 R f (t ∷ ts)
read_at a t [] last e h = absurd last
read_at a t (u ∷ ts) last e h = record { way = Reads; front = t ∷ []; next = u; later = ts; is = refl; last = last; moves = λ e. omega arith; says = λ x more. (a, e x (u ∷ more)); told = whole h }

-- a token of one kind
pub stops_fixed : {X : Type 0} (test : Kind → Bool) (k : Kind) (d : ℕ) → ((t : Kind) → test t ≡ true → t ≡ k) → k ≢ tk.End → (f : Reader (Unit {0}))
    → ((t : Token) (ts : List Token) → f (t ∷ ts) ≡ (if test t.kind then Ok (tt, ts) else Err (Syntax (length (t ∷ ts))))) → (i : List Token) → Ended i → Stops 1 (Fixed k d) (λ (x : X). f) i
stops_fixed test k d is apart f e [] last = absurd last
stops_fixed {X = X} test k d is apart f e (t ∷ ts) last = by_test (test t.kind) refl
  where
    by_test : (b : Bool) → test t.kind ≡ b → Stops 1 (Fixed k d) (λ (x : X). f) (t ∷ ts)
    by_test true q =
        let same : t.kind ≡ k = is t.kind q in
        read_at tt t ts (behind t ts last (λ z. apart (sym same ∙ z))) (λ x u. e t u ∙ ap (λ b. if b then Ok (tt, u) else Err (Syntax (length (t ∷ u)))) q)
        (record { front = at k t.place d ∷ []; tokens = ap (λ k. token k t.place ∷ []) (sym same); part = λ J. fixed })
    by_test false q = refused_at t ts last (λ x u. e t u ∙ ap (λ b. if b then Ok (tt, u) else Err (Syntax (length (t ∷ u)))) q) (given_fixed k d)

pub stops_sign : {X : Type 0} (s : Sign) (d : ℕ) (i : List Token) → Ended i → Stops 1 (Fixed (tk.Sign s) d) (λ (x : X). expect_sign s) i
stops_sign s d i last = stops_fixed (is_sign s) (tk.Sign s) d (signed s) (λ e. cc) (expect_sign s) (λ t ts. refl) i last

pub stops_word : {X : Type 0} (w : List ℕ) (d : ℕ) (i : List Token) → Ended i → Stops 1 (Fixed (tk.Word w) d) (λ (x : X). expect_word w) i
stops_word w d i last = stops_fixed (is_word w) (tk.Word w) d (worded w) (λ e. cc) (expect_word w) (λ t ts. refl) i last

-- a token for which the table has a value
pub stops_table : {X A : Type 0} (table : Kind → Option A) (d : ℕ) (k : Kind) (a : A) → table k ≡ Some a → table tk.End ≡ None → (i : List Token) → Ended i → Stops 1 (OfTable table d) (λ (x : X). expect_some table) i
stops_table table d k a has none [] last = absurd last
stops_table {X = X} {A = A} table d k a has none (t ∷ ts) last = by_table (table t.kind) refl
  where
    by_table : (o : Option A) → table t.kind ≡ o → Stops 1 (OfTable table d) (λ (x : X). expect_some table) (t ∷ ts)
    by_table None q = refused_at t ts last (λ x u. ap (λ o. if_some o (λ a. Ok (a, u)) (Err (Syntax (length (t ∷ u))))) q) (given_table table d k a has)
    by_table (Some b) q = read_at b t ts (behind t ts last (λ z. let both : ◌≡◌ {A = Option A} None (Some b) = sym none ∙ sym (ap table z) ∙ q in absurd (cc)))
        (λ x u. ap (λ o. if_some o (λ a. Ok (a, u)) (Err (Syntax (length (t ∷ u))))) q) (record { front = at t.kind t.place d ∷ []; tokens = refl; part = λ J. of_table q })

-- ---- a token that opens a level

module _ {X B : Type 0} {R : Rel} (s : Sign) (d : ℕ) (given : Given R) where
  opened_at : (g : X → ℕ → Reader B) (t : Token) (ts : List Token) → Ended (t ∷ ts) → is_sign s t.kind ≡ true → Stops 1 (Both (Fixed (tk.Sign s) (suc d)) R) (λ x i. and_then (opening s 0 i) (g x)) (t ∷ ts)
  opened_at g t ts last e = record {
    way = Opens;
    front = [];
    next = t;
    later = ts;
    is = refl;
    last = last;
    moves = λ e. absurd (cc);
    says = λ x more. ap (λ b. and_then (if b then deeper 0 (t ∷ more) else Err (Syntax (length (t ∷ more)))) (g x)) e;
    told = opened (record { front = at (tk.Sign s) t.place (suc d) ∷ []; more = given.front; tokens = ap (λ k. token k t.place ∷ []) (sym (signed s t.kind e)); part = λ J. both fixed (given.part J) });
  }

  refused_open : (left : ℕ) (g : X → ℕ → Reader B) (t : Token) (ts : List Token) → Ended (t ∷ ts) → is_sign s t.kind ≡ false → Stops 1 (Both (Fixed (tk.Sign s) (suc d)) R) (λ x i. and_then (opening s left i) (g x)) (t ∷ ts)
  refused_open left g t ts last e = refused_at t ts last (λ x u. ap (λ b. and_then (if b then deeper left (t ∷ u) else Err (Syntax (length (t ∷ u)))) (g x)) e) (given_both (given_fixed (tk.Sign s) (suc d)) given)

  goes_deeper : {n : ℕ} (left : ℕ) (g : X → ℕ → Reader B) (t : Token) (ts : List Token) → Ended (t ∷ ts) → is_sign s t.kind ≡ true → ((j : List Token) → Ended j → Stops n R (λ x. g x left) j)
      → Stops 1 (Both (Fixed (tk.Sign s) (suc d)) R) (λ x i. and_then (opening s (suc left) i) (g x)) (t ∷ ts)
  goes_deeper left g t ts last e h = skips (λ x. g x left) (tk.Sign s) (suc d) t ts (signed s t.kind e) (λ x u. ap (λ b. and_then (if b then deeper (suc left) (t ∷ u) else Err (Syntax (length (t ∷ u)))) (g x)) e)
      (h ts (behind t ts last (λ z. let both : tk.Sign s ≡ tk.End = sym (signed s t.kind e) ∙ z in absurd (cc))))

  pub stops_open : {n : ℕ} (left : ℕ) (g : X → ℕ → Reader B) (i : List Token) → Ended i → ((m : ℕ) → suc m ≡ left → (j : List Token) → Ended j → Stops n R (λ x. g x m) j)
      → Stops 1 (Both (Fixed (tk.Sign s) (suc d)) R) (λ x i. and_then (opening s left i) (g x)) i
  stops_open left g [] last h = absurd last
  stops_open {n = n} left g (t ∷ ts) last h = by_sign (is_sign s t.kind) refl
    where
      by_left : (left : ℕ) → is_sign s t.kind ≡ true → ((m : ℕ) → suc m ≡ left → (j : List Token) → Ended j → Stops n R (λ x. g x m) j) → Stops 1 (Both (Fixed (tk.Sign s) (suc d)) R) (λ x i. and_then (opening s left i) (g x)) (t ∷ ts)
      by_left zero e h = opened_at g t ts last e
      by_left (suc m) e h = goes_deeper m g t ts last e (h m refl)

      by_sign : (b : Bool) → is_sign s t.kind ≡ b → Stops 1 (Both (Fixed (tk.Sign s) (suc d)) R) (λ x i. and_then (opening s left i) (g x)) (t ∷ ts)
      by_sign true e = by_left left e h
      by_sign false e = refused_open left g t ts last e

-- ---- parts that begin so, one after another

-- what turns come to, however many more there are than tokens
pub record Turns {A : Type 0} (R : Rel) (begins : List Token → Bool) (one : Reader A) (i : List Token) : Type 0 where
  pub way : Way
  pub front : List Token
  pub next : Token
  pub later : List Token
  pub is : i ≡ front ++ next ∷ later
  pub last : Ended (next ∷ later)
  pub says : (turns : ℕ) (got : List A) (more : List Token) → length (front ++ next ∷ more) ≤ turns → Ends way (next ∷ more) (many_from begins one turns got (front ++ next ∷ more))
  pub told : Told (Star R) way front next

begins_star : {R : Rel} (ts : List Token) → Begins R ts → Begins (Star R) ts
begins_star ts b = record { front = b.front; more = b.more; tokens = b.tokens; part = λ J. one_more (b.part J) no_more }

star_told : {R : Rel} {w : Way} {front : List Token} {next : Token} → w ≢ Reads → Told R w front next → Told (Star R) w front next
star_told apart (whole a) = absurd (apart refl)
star_told {front = front} apart (begun a) = begun (begins_star front a)
star_told {front = front} {next = next} apart (opened a) = opened (begins_star (front ++ next ∷ []) a)

star_of : (R : Rel) (I J : List Leveled) → Both R (Star R) I J → Star R I J
star_of R I J (both a s) = one_more a s

module _ {A : Type 0} (begins : List Token → Bool) (first : OfFirst begins) (one : Reader A) where
  go : (turns : ℕ) (got : List A) (i : List Token) → begins i ≡ true → many_from begins one (suc turns) got i ≡ and_then (one i) (λ x. many_from begins one turns (got ++ x ∷ []))
  unfolding many_from
  go turns got i e = ap (λ b. if b then and_then (one i) (λ x. many_from begins one turns (got ++ x ∷ [])) else Ok (got, i)) e

  stay : (turns : ℕ) (got : List A) (i : List Token) → begins i ≡ false → many_from begins one (suc turns) got i ≡ Ok (got, i)
  unfolding many_from
  stay turns got i e = ap (λ b. if b then and_then (one i) (λ x. many_from begins one turns (got ++ x ∷ [])) else Ok (got, i)) e

  nothing_more : {R : Rel} (t : Token) (ts : List Token) → Ended (t ∷ ts) → begins (t ∷ ts) ≡ false → Turns R begins one (t ∷ ts)
  nothing_more t ts last e = record { way = Reads; front = []; next = t; later = ts; is = refl; last = last; says = says; told = whole (record { front = []; tokens = refl; part = λ J. no_more }) }
    where
      says : (turns : ℕ) (got : List A) (more : List Token) → length (t ∷ more) ≤ turns → Ends Reads (t ∷ more) (many_from begins one turns got (t ∷ more))
      says zero got more le = absurd (omega (arith, le))
      says (suc n) got more le = (got, stay n got (t ∷ more) (first t more ts ∙ e))

  -- where the first part is not read
  fails : {R : Rel} (way : Way) → way ≢ Reads → (i front : List Token) (u : Token) (later : List Token) → Ended i → begins i ≡ true → i ≡ front ++ u ∷ later → Ended (u ∷ later)
      → ((more : List Token) → Ends way (u ∷ more) (one (front ++ u ∷ more))) → Told R way front u → Turns R begins one i
  fails way apart i front u later all e is last says told = record { way = way; front = front; next = u; later = later; is = is; last = last; says = on_turn; told = star_told apart told }
    where
      on_turn : (turns : ℕ) (got : List A) (more : List Token) → length (front ++ u ∷ more) ≤ turns → Ends way (u ∷ more) (many_from begins one turns got (front ++ u ∷ more))
      on_turn zero got more le = absurd (omega (arith, le, length-append front (u ∷ more)))
      on_turn (suc n) got more le = ends_alike way (u ∷ more) (go n got (front ++ u ∷ more) (same_test begins first i front u later more all is ∙ e))
          (passed_on way (one (front ++ u ∷ more)) (λ x. many_from begins one n (got ++ x ∷ [])) (u ∷ more) apart (says more))

  -- where the first part is read
  goes_round : {R : Rel} (i front : List Token) (u : Token) (later : List Token) → Ended i → begins i ≡ true → i ≡ front ++ u ∷ later → 1 ≤ length front
      → ((more : List Token) → Ends Reads (u ∷ more) (one (front ++ u ∷ more))) → Whole R front → Turns R begins one (u ∷ later) → Turns R begins one i
  goes_round {R = R} i front u later all e is moves says told k = record {
    way = k.way;
    front = front ++ k.front;
    next = k.next;
    later = k.later;
    is = to_rest;
    last = k.last;
    says = on_turn;
    told = told_as (star_of R) (then_told front told k.told);
  }
    where
      to_rest : i ≡ (front ++ k.front) ++ k.next ∷ k.later
      to_rest = is ∙ ap (λ x. front ++ x) k.is ∙ sym (append_assoc front k.front (k.next ∷ k.later))

      on_turn : (turns : ℕ) (got : List A) (more : List Token) → length ((front ++ k.front) ++ k.next ∷ more) ≤ turns → Ends k.way (k.next ∷ more) (many_from begins one turns got ((front ++ k.front) ++ k.next ∷ more))
      on_turn zero got more le = absurd (omega (arith, le, length-append (front ++ k.front) (k.next ∷ more)))
      on_turn (suc n) got more le =
          let s = same_first k.front k.next u k.later later more k.is in
          let r = says s.0 in
          let read : one ((front ++ k.front) ++ k.next ∷ more) ≡ Ok (r.0, k.front ++ k.next ∷ more) =
          ap one (append_assoc front k.front (k.next ∷ more) ∙ ap (λ y. front ++ y) s.1) ∙ r.1 ∙ ap (λ y. Ok (r.0, y)) (sym s.1) in
          ends_alike k.way (k.next ∷ more)
          (go n got ((front ++ k.front) ++ k.next ∷ more) (same_test begins first i (front ++ k.front) k.next k.later more all to_rest ∙ e) ∙ ap (λ r. and_then r (λ x. many_from begins one n (got ++ x ∷ []))) read)
          (k.says n (got ++ r.0 ∷ []) more (omega (arith, le, moves, length-append (front ++ k.front) (k.next ∷ more), length-append front k.front, length-append k.front (k.next ∷ more))))

  one_turn : {R : Rel} (fuel : ℕ) (i : List Token) (way : Way) (front : List Token) (u : Token) (later : List Token) → length i ≤ suc fuel → Ended i → begins i ≡ true → i ≡ front ++ u ∷ later → Ended (u ∷ later)
      → (way ≡ Reads → 1 ≤ length front) → ((more : List Token) → Ends way (u ∷ more) (one (front ++ u ∷ more))) → Told R way front u
      → ((j : List Token) → length j ≤ fuel → Ended j → Turns R begins one j) → Turns R begins one i
  one_turn fuel i Reads front u later le all e is last moves says (whole told) again =
      goes_round i front u later all e is (moves refl) says told (again (u ∷ later) (omega (arith, le, moves refl, ap length is, length-append front (u ∷ later))) last)
  one_turn fuel i Refuses front u later le all e is last moves says told again = fails Refuses (λ q. cc) i front u later all e is last says told
  one_turn fuel i Opens front u later le all e is last moves says told again = fails Opens (λ q. cc) i front u later all e is last says told

  if_begun : {R : Rel} (fuel : ℕ) (t : Token) (ts : List Token) → length (t ∷ ts) ≤ suc fuel → Ended (t ∷ ts) → (begins (t ∷ ts) ≡ true → Stops 1 R (λ (u : Unit {0}). one) (t ∷ ts))
      → ((j : List Token) → length j ≤ fuel → Ended j → Turns R begins one j) → Turns R begins one (t ∷ ts)
  if_begun {R = R} fuel t ts le last h again = by_test (begins (t ∷ ts)) refl
    where
      by_test : (b : Bool) → begins (t ∷ ts) ≡ b → Turns R begins one (t ∷ ts)
      by_test false e = nothing_more t ts last e
      by_test true e = let s = h e in one_turn fuel (t ∷ ts) s.way s.front s.next s.later le last e s.is s.last s.moves (λ more. s.says tt more) s.told again

  many_turns : {R : Rel} → ((i : List Token) → Ended i → begins i ≡ true → Stops 1 R (λ (u : Unit {0}). one) i) → (fuel : ℕ) (i : List Token) → length i ≤ fuel → Ended i → Turns R begins one i
  many_turns h fuel [] le last = absurd last
  many_turns h zero (t ∷ ts) le last = absurd (omega (arith, le))
  many_turns h (suc fuel) (t ∷ ts) le last = if_begun fuel t ts le last (h (t ∷ ts) last) (λ j le last. many_turns h fuel j le last)

  pub stops_many : {X : Type 0} {R : Rel} → ((i : List Token) → Ended i → begins i ≡ true → Stops 1 R (λ (u : Unit {0}). one) i) → (got : X → List A) (i : List Token) → Ended i → Stops 0 (Star R) (λ x. many_after begins one (got x)) i
  unfolding many_after
  stops_many h got i last = let k = many_turns h (length i) i (omega arith) last in record {
    way = k.way;
    front = k.front;
    next = k.next;
    later = k.later;
    is = k.is;
    last = k.last;
    moves = λ e. omega arith;
    says = λ x more. k.says (length (k.front ++ k.next ∷ more)) (got x) more (omega arith);
    told = k.told;
  }

pub behind_word : (w : List ℕ) (t : Token) (ts : List Token) → Ended (t ∷ ts) → t.kind ≡ tk.Word w → Ended ts
behind_word w t ts last e = behind t ts last (λ z. let both : tk.Word w ≡ tk.End = sym e ∙ z in absurd (cc))

pub behind_sign : (s : Sign) (t : Token) (ts : List Token) → Ended (t ∷ ts) → t.kind ≡ tk.Sign s → Ended ts
behind_sign s t ts last e = behind t ts last (λ z. let both : tk.Sign s ≡ tk.End = sym e ∙ z in absurd (cc))

-- with commas between them, before a closing sign
module _ {A : Type 0} {m : ℕ} {R : Rel} (S : Rel) (d : ℕ) (close : Sign) (one : Reader A) (none : (J : List Leveled) → S J J) (some : (I J : List Leveled) → Both R (Star (Both (Fixed (tk.Sign g.Comma) d) R)) I J → S I J)
    (h : (i : List Token) → Ended i → Stops m R (λ (u : Unit {0}). one) i) where
  none_of : (I J : List Leveled) → Nothing I J → S I J
  none_of I J nothing = none J

  comma_part : (i : List Token) → Ended i → sees_sign g.Comma i ≡ true → Stops 1 (Both (Fixed (tk.Sign g.Comma) d) R) (λ (u : Unit {0}). after_comma one) i
  comma_part [] last e = absurd last
  comma_part (t ∷ ts) last e = skips (λ u. one) (tk.Sign g.Comma) d t ts (signed g.Comma t.kind e) (λ x u. refl) (h ts (behind_sign g.Comma t ts last (signed g.Comma t.kind e)))

  pub stops_separated : {X : Type 0} (i : List Token) → Ended i → Stops 0 S (λ (x : X). separated close one) i
  unfolding separated
  stops_separated i last = either (sees_sign close) (λ t u v. refl) (λ x i. Ok ([], i)) (λ x i. and_then (one i) (λ first. many_after (sees_sign g.Comma) (after_comma one) (first ∷ []))) i last
      (λ e. stops_as none_of (stops_pure (λ x. []) i last))
      (λ e. stops_as some (loosen (after (λ x. one) (λ x first. many_after (sees_sign g.Comma) (after_comma one) (first ∷ [])) given_star i (stops_for (λ x. tt) (h i last))
      (λ j last. stops_many (sees_sign g.Comma) (λ t u v. refl) (after_comma one) comma_part (λ p. p.1 ∷ []) j last))))

-- with the place of the first token
pub stops_placed : {X A : Type 0} {m : ℕ} {R : Rel} {i : List Token} (f : Place → Reader A) → Stops m R (λ (q : X × Place). f q.1) i → Stops m R (λ (x : X) i. f (place i) i) i
stops_placed f h = record {
  way = h.way;
  front = h.front;
  next = h.next;
  later = h.later;
  is = h.is;
  last = h.last;
  moves = h.moves;
  says = λ x more. h.says (x, place (h.front ++ h.next ∷ more)) more;
  told = h.told;
}
