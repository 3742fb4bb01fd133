-- From a text to the numbers of an order list, or to its first fault.
use Rattle.std.proofs.Common.{◌≡◌, ℕ, ◌<◌, List, length, nat_lt, Bool, true, Option, Some, None, Result, Ok, Err, if◌then◌else◌, sym, ◌∙◌, ap, subst, arith}
use Rattle.std.proofs.lemmas.Bool.Decides.{nat_tests}
use Rattle.sq_port.specs.Ports.{Content}
use Rattle.sq_text.specs.Limits.{most_data}
use Rattle.sq_text.specs.declared.fault.Fault.{Fault}
use Rattle.sq_text.specs.declared.fault.Stop.{Stop}
use Rattle.sq_text.specs.declared.fault.Stop.TheVariants.{Refused as Refusal}
use Rattle.sq_picks.specs.OrderList.{order_list, picks_of, words_from, too_long, Gives}
use Rattle.sq_driver.specs.declared.outside.end.End.TheVariants.{Refused}
use Rattle.sq_driver.specs.Ordering.{ReadsList}

some_same : {A : Type 0} (o : Option A) (x y : A) → o ≡ Some x → o ≡ Some y → x ≡ y
some_same o x y a b = cc

ok_same : {A B : Type 0} (r : Result A B) (x y : A) → r ≡ Ok x → r ≡ Ok y → x ≡ y
ok_same r x y a b = cc

ok_or_err : {A B : Type 0} (r : Result A B) (x : A) (y : B) → r ≡ Ok x → r ≡ Err y → ⊥
ok_or_err r x y a b = let both : Ok x ≡ Err y = sym a ∙ b in cc

long : (text : List ℕ) → 268435456 < length text → nat_lt most_data (length text) ≡ true
long text more = grind (arith, nat_tests, more)

too_long_list : (text : List ℕ) → nat_lt most_data (length text) ≡ true → order_list text ≡ Err too_long
too_long_list text more = ap
    (λ (b : Bool). if b then Err too_long else picks_of (words_from (record { line = 1; col = 1 }) None text)) more

-- a list that is too long
pub list_too_long : (text : List ℕ) (f : Fault) → f ≡ too_long → 268435456 < length text → order_list text ≡ Err f
list_too_long text f is more = too_long_list text (long text more) ∙ ap (λ (x : Fault). Err x) (sym is)

-- a file that is read whole
module _ (told : Option Content) (name text : List ℕ) (there : (c : Content) → told ≡ Some c → c name ≡ Some text)
    (slice : List ℕ) (same : slice ≡ text) where
  pub list_held : (picks : List ℕ) → order_list slice ≡ Ok picks → ReadsList told name (Ok picks)
  list_held picks read = λ c is.
      let whole : order_list text ≡ Ok picks = ap order_list (sym same) ∙ read in
      record {
        one = record {
          holds = (text, there c is, whole);
          only = λ that holds. ok_same (order_list text) that picks
              (ap order_list (some_same (c name) text holds.0 (there c is) holds.1) ∙ holds.2) whole;
        };
        no_fault = λ its holds. ok_or_err (order_list text) picks its whole
            (ap order_list (some_same (c name) text holds.0 (there c is) holds.1) ∙ holds.2);
      }

  pub list_refused : (stop : Stop) (f : Fault) → stop ≡ Refusal f → Gives (Err stop) (order_list slice)
      → ReadsList told name (Err (Refused f))
  list_refused stop f is gives = λ c at. (
    text,
    there c at,
    ap order_list (sym same)
        ∙ subst (λ (s : Stop). Gives (Err s) (order_list slice)) is gives,
  )
