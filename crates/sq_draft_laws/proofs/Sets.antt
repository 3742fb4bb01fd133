-- The homes of a call's parameters in one of the two sets of buffers that are used in turn.
use Rattle.std.proofs.Common.{◌≡◌, ℕ, zero, suc, true, false, List, [], ◌∷◌, ◌++◌, map, get_or, refl, sym, ap, subst}
use Rattle.std.proofs.Common.{◌∙◌, Bool}
use Rattle.sq_ir.specs.Written.{Setting}
use Rattle.sq_blocks.specs.declared.argument.Argument.{Argument}
use Rattle.sq_placed.specs.declared.home.Home.{Home}
use Rattle.sq_placed.specs.declared.home.Home.TheVariants.{InPlace, Own, Held, Twin}
use Rattle.sq_placed.specs.Trees.{buffer_of, home_in_set, twin_of}
use Rattle.sq_term.specs.Terms.{buffers_from, set_buffers_from}
use Rattle.sq_term.specs.Stands.{IsOf}
use Rattle.sq_program_laws.specs.PlanLaws.Seated.{IsNear}
use Rattle.sq_program_laws.specs.TermLaws.Orders.{EachOf}
use Rattle.sq_program_laws.specs.TermLaws.Overlapping.{IsSuited}
use Rattle.sq_draft_laws.proofs.Every.{Among, among_left, among_right}
use Rattle.sq_draft_laws.proofs.Moves.{IsSingle}

-- ---- homes of a form whose transfers overlap, or don't

pub suited_home : (o : Bool) (hs : List Home) → EachOf (IsSuited o) hs → (j : ℕ) → IsSuited o (get_or hs j InPlace)
suited_home o [] h j = tt
suited_home o (x ∷ hs) h zero = h.0
suited_home o (x ∷ hs) h (suc j) = suited_home o hs h.1 j

plain_single : (h : Home) → IsSuited false h → IsSingle h
plain_single InPlace s = tt
plain_single (Own b) s = tt
plain_single (Held b loops) s = tt
plain_single (Twin b c) s = absurd (let z = s in cc)

pub plain_homes : (hs : List Home) → EachOf (IsSuited false) hs → (j : ℕ) → IsSingle (get_or hs j InPlace)
plain_homes hs h j = plain_single (get_or hs j InPlace) (suited_home false hs h j)

-- ---- in one of the sets

at_home : (set : ℕ) (hs : List Home) (j : ℕ) → get_or (map (home_in_set set) hs) j InPlace
    ≡ home_in_set set (get_or hs j InPlace)
at_home zero [] j = refl
at_home (suc k) [] j = refl
at_home set (h ∷ hs) zero = refl
at_home set (h ∷ hs) (suc j) = at_home set hs j

single : (set : ℕ) (h : Home) → IsSingle (home_in_set set h)
single zero InPlace = tt
single zero (Own b) = tt
single zero (Held b loops) = tt
single zero (Twin b c) = tt
single (suc k) InPlace = tt
single (suc k) (Own b) = tt
single (suc k) (Held b loops) = tt
single (suc k) (Twin b c) = tt

pub set_single : (set : ℕ) (hs : List Home) (j : ℕ) → IsSingle (get_or (map (home_in_set set) hs) j InPlace)
set_single set hs j = subst IsSingle (sym (at_home set hs j)) (single set (get_or hs j InPlace))

near : (set : ℕ) (h : Home) → IsNear true h → IsNear true (home_in_set set h)
near zero InPlace e = e
near zero (Own b) e = tt
near zero (Held b loops) e = tt
near zero (Twin b c) e = tt
near (suc k) InPlace e = e
near (suc k) (Own b) e = tt
near (suc k) (Held b loops) e = tt
near (suc k) (Twin b c) e = tt

pub set_near : (set : ℕ) (hs : List Home) (j : ℕ) → IsNear true (get_or hs j InPlace)
    → IsNear true (get_or (map (home_in_set set) hs) j InPlace)
set_near set hs j e = subst (IsNear true) (sym (at_home set hs j)) (near set (get_or hs j InPlace) e)

of_level : (s : Setting) (level set : ℕ) (h : Home) → IsOf s level h → IsOf s level (home_in_set set h)
of_level s level zero InPlace e = tt
of_level s level zero (Own b) e = e
of_level s level zero (Held b loops) e = e
of_level s level zero (Twin b c) e = e.0
of_level s level (suc k) InPlace e = tt
of_level s level (suc k) (Own b) e = e
of_level s level (suc k) (Held b loops) e = e
of_level s level (suc k) (Twin b c) e = e.1

pub set_level : (s : Setting) (level set : ℕ) (hs : List Home) (j : ℕ) → IsOf s level (get_or hs j InPlace)
    → IsOf s level (get_or (map (home_in_set set) hs) j InPlace)
set_level s level set hs j e =
    subst (IsOf s level) (sym (at_home set hs j)) (of_level s level set (get_or hs j InPlace) e)

held : (set : ℕ) (h : Home) (b loops : ℕ) → home_in_set set h ≡ Held b loops → h ≡ Held b loops
held zero InPlace b loops e = e
held zero (Own x) b loops e = e
held zero (Held x m) b loops e = e
held zero (Twin x y) b loops e = absurd (cc e)
held (suc k) InPlace b loops e = e
held (suc k) (Own x) b loops e = e
held (suc k) (Held x m) b loops e = e
held (suc k) (Twin x y) b loops e = absurd (cc e)

pub set_held : (set : ℕ) (hs : List Home) (j b loops : ℕ) → get_or (map (home_in_set set) hs) j InPlace ≡ Held b loops
    → get_or hs j InPlace ≡ Held b loops
set_held set hs j b loops e = held set (get_or hs j InPlace) b loops (sym (at_home set hs j) ∙ e)

-- ---- its buffers

own_is : (set : ℕ) (h : Home) (more : List ℕ) → IsSuited true h → buffer_of (home_in_set set h) more
    ≡ twin_of set h more
own_is zero InPlace more s = refl
own_is zero (Own b) more s = absurd (let z = s in cc)
own_is zero (Held b loops) more s = refl
own_is zero (Twin b c) more s = refl
own_is (suc k) InPlace more s = refl
own_is (suc k) (Own b) more s = absurd (let z = s in cc)
own_is (suc k) (Held b loops) more s = refl
own_is (suc k) (Twin b c) more s = refl

second : (k : ℕ) (h : Home) (more : List ℕ) → twin_of (suc k) h more ≡ twin_of 1 h more
second k InPlace more = refl
second k (Own b) more = refl
second k (Held b loops) more = refl
second k (Twin b c) more = refl

seconds : (k : ℕ) (hs : List Home) (i : ℕ) (args : List Argument) → set_buffers_from (suc k) hs i args
    ≡ set_buffers_from 1 hs i args
seconds k hs i [] = refl
seconds k hs i (a ∷ rest) = second k (get_or hs i InPlace) (set_buffers_from (suc k) hs (suc i) rest)
    ∙ ap (twin_of 1 (get_or hs i InPlace)) (seconds k hs (suc i) rest)

module _ (hs : List Home) (suited : EachOf (IsSuited true) hs) where
  owns_are : (set i : ℕ) (args : List Argument) → buffers_from (map (home_in_set set) hs) i args
      ≡ set_buffers_from set hs i args
  owns_are set i [] = refl
  owns_are set i (a ∷ rest) =
      ap (λ (h : Home). buffer_of h (buffers_from (map (home_in_set set) hs) (suc i) rest)) (at_home set hs i)
      ∙ own_is set (get_or hs i InPlace) (buffers_from (map (home_in_set set) hs) (suc i) rest)
      (suited_home true hs suited i)
      ∙ ap (twin_of set (get_or hs i InPlace)) (owns_are set (suc i) rest)

  -- they are among those of both sets
  pub set_there : (set : ℕ) (args : List Argument)
      → Among (buffers_from (map (home_in_set set) hs) 0 args)
      (set_buffers_from 0 hs 0 args ++ set_buffers_from 1 hs 0 args)
  set_there zero args = subst (λ (l : List ℕ). Among l
      (set_buffers_from 0 hs 0 args ++ set_buffers_from 1 hs 0 args)) (sym (owns_are zero 0 args))
      (among_left (set_buffers_from 0 hs 0 args) (set_buffers_from 1 hs 0 args))
  set_there (suc k) args = subst (λ (l : List ℕ). Among l
      (set_buffers_from 0 hs 0 args ++ set_buffers_from 1 hs 0 args))
      (sym (owns_are (suc k) 0 args ∙ seconds k hs 0 args))
      (among_right (set_buffers_from 0 hs 0 args) (set_buffers_from 1 hs 0 args))
