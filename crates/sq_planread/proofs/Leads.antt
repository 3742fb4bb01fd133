-- Reading a text of the grammar: it goes on from token to token, up to the first that has a level too many.
use Rattle.std.proofs.Common.{◌≡◌, ℕ, ◌≤◌, ◌<◌, List, [], ◌∷◌, ◌++◌, length, Ok, Err, refl, sym, ap, subst, arith, ◌⊎◌, inl, inr}
use Rattle.sq_reader.specs.declared.error.ParseError.TheVariants.{TooDeep}
use Rattle.sq_plantext.specs.Grammar.{Leveled, tokens_of, Within}
use Rattle.sq_planread.specs.Reading.{Outcome, Reader, and_then}

abbrev pub size : List Leveled → ℕ
size i = length (tokens_of i)

module _ (most : ℕ) where
  -- From the tokens i, where the outcome is r, reading goes on to j, where it is o; or r tells the first token between
  -- them that has a level too many.
  pub data Leads {A : Type 0} (j : List Leveled) (o : Outcome A) : List Leveled → Outcome A → Type 0 where
    there : Leads j o j o
    goes : {t : Leveled} {i : List Leveled} {r : Outcome A} → t.level ≤ most → Leads j o i r → Leads j o (t ∷ i) r
    deep : {t : Leveled} {i : List Leveled} → most < t.level → Leads j o (t ∷ i) (Err (TooDeep (size (t ∷ i))))

  pub leads : {A : Type 0} {j l : List Leveled} {o q : Outcome A} {i : List Leveled} {r : Outcome A} → Leads j o i r → Leads l q j o → Leads l q i r
  leads there h = h
  leads (goes le g) h = goes le (leads g h)
  leads (deep lt) h = deep lt

  pub and_on : {A B : Type 0} {j : List Leveled} {x : A} {i : List Leveled} {r : Outcome A} (f : A → Reader B) → Leads j (Ok (x, tokens_of j)) i r → Leads j (f x (tokens_of j)) i (and_then r f)
  and_on f there = there
  and_on f (goes le g) = goes le (and_on f g)
  and_on f (deep lt) = deep lt

  pub same : {A : Type 0} {j : List Leveled} {o : Outcome A} {i : List Leveled} {r s : Outcome A} → s ≡ r → Leads j o i r → Leads j o i s
  same {j = j} {o = o} {i = i} e h = subst (λ r. Leads j o i r) (sym e) h

  -- ---- what it comes to

  -- where no token has a level too many
  pub all_read : {A : Type 0} {j : List Leveled} {o : Outcome A} {i : List Leveled} {r : Outcome A} → Leads j o i r → Within most i → r ≡ o
  all_read there w = refl
  all_read (goes le g) w = all_read g w.1
  all_read (deep lt) w = absurd (omega (arith, lt, w.0))

  -- where no more tokens than these may have one
  abbrev pub Past : {A : Type 0} → List Leveled → Outcome A → Outcome A → Type 0
  Past m o r = (r ≡ o) ⊎ ((c : ℕ) × (c ≤ size m) × (r ≡ Err (TooDeep c)))

  longer : {A : Type 0} (t : Leveled) (m : List Leveled) (o r : Outcome A) → Past m o r → Past (t ∷ m) o r
  longer t m o r (inl e) = inl e
  longer t m o r (inr h) = inr (h.0, omega (arith, h.1), h.2)

  anywhere : {A : Type 0} {j : List Leveled} {o : Outcome A} {i : List Leveled} {r : Outcome A} → Leads j o i r → Past i o r
  anywhere there = inl refl
  anywhere (goes {t = t} {i = i} {r = r} le g) = longer t i _ r (anywhere g)
  anywhere (deep {t = t} {i = i} lt) = inr (size (t ∷ i), omega arith, refl)

  pub past : {A : Type 0} {j : List Leveled} {o : Outcome A} {i : List Leveled} {r : Outcome A} (l m : List Leveled) → i ≡ l ++ m → Within most l → Leads j o i r → Past m o r
  past {j = j} {o = o} {r = r} [] m e w h = anywhere (subst (λ i. Leads j o i r) e h)
  past (t ∷ l) m e w there = inl refl
  past (t ∷ l) m e w (goes {i = i} le g) = let rest : i ≡ l ++ m = cc in past l m rest w.1 g
  past (t ∷ l) m e w (deep {t = u} lt) = let first : u ≡ t = cc in absurd (omega (arith, lt, w.0, ap (λ (t : Leveled). t.level) first))
