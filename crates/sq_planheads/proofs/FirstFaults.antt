-- The first fault of each group, from the tests of its lines.
use Rattle.std.proofs.Common.{◌≡◌, ℕ, zero, suc, inl, inr, Bool, true, false, not, ◌&&◌, if◌then◌else◌, List, [], ◌∷◌, ◌++◌, Option, Some, None, option_map, All, refl, sym, ap, ◌∙◌, subst, append_assoc}
use Rattle.std.specs.List.{slice_get, AllByRecursion}
use Rattle.std.proofs.lemmas.List.Elements.{All-from_recursion}
use Rattle.sq_text.specs.declared.code.Code.{Code}
use Rattle.sq_text.specs.declared.code.Code.TheVariants as code
use Rattle.sq_text.specs.declared.code.Phase.TheVariants.{Plan}
use Rattle.sq_text.specs.declared.fault.Fault.{Fault}
use Rattle.sq_text.specs.First.{HoldsIn}
use Rattle.sq_text.specs.Faults.{fault_place, fault_number, IsFirst}
use Rattle.sq_text.specs.Found.{Breach, at_name, at_place, fault_by, firsts, nothing_found, BreaksAt}
use Rattle.sq_text.specs.Names.{Bytes}
use Rattle.sq_text.proofs.Firsts.{first_same}
use Rattle.sq_text.proofs.Breaches.{first_breach}
use Rattle.sq_ir.specs.Machines.{AreNodes}
use Rattle.sq_plantext.specs.declared.text.BufferLine.{BufferLine}
use Rattle.sq_plantext.specs.declared.text.ArrayLine.{ArrayLine}
use Rattle.sq_plantext.specs.declared.text.PlanText.{PlanText}
use Rattle.sq_planfile.specs.Files.{nodes_of}
use Rattle.sq_planfile.specs.Sound.{IsBufferLine, IsArrayLine, AreArrays}
use Rattle.sq_planfile.specs.Faults as faults
use Rattle.sq_planfile.specs.Faults.{named, BufferFault, ArrayFault}
use Rattle.sq_planheads.specs.Nodes.{deepest}
use Rattle.sq_planheads.specs.Buffers.{is_buffer, buffer_breach}
use Rattle.sq_planheads.specs.Arrays.{sites, is_new_name, with_name, is_new_buffer, with_buffer, fits, array_breach}
use Rattle.sq_planheads.proofs.BuffersTell.{buffer_tells}
use Rattle.sq_planheads.proofs.ArraysTell.{Knows, knows_none, knows_more, array_tells}

-- ---- at one of the sites

pub record AtSome {S : Type 0} (judge : S → Option Breach) (xs : List S) (f : Fault) : Type 0 where
  pub index : ℕ
  pub site : S
  pub there : slice_get xs index ≡ Some site
  pub broken : option_map (fault_by Plan) (judge site) ≡ Some f

pub some_site : {S : Type 0} (judge : S → Option Breach) (xs : List S) (f : Fault) → HoldsIn (BreaksAt judge Plan) xs f → AtSome judge xs f
some_site judge [] f h = absurd h
some_site judge (x ∷ xs) f (inl h) = record { index = 0; site = x; there = refl; broken = h }
some_site judge (x ∷ xs) f (inr h) = let s = some_site judge xs f h in record { index = suc s.index; site = s.site; there = s.there; broken = s.broken }

pub site_at : {S : Type 0} (judge : S → Option Breach) (xs : List S) (f : Fault) (i : ℕ) (x : S) → slice_get xs i ≡ Some x → option_map (fault_by Plan) (judge x) ≡ Some f
    → HoldsIn (BreaksAt judge Plan) xs f
site_at judge [] f i x e h = absurd (cc)
site_at judge (y ∷ ys) f zero x e h = let same : y ≡ x = cc in inl (ap (λ y. option_map (fault_by Plan) (judge y)) same ∙ h)
site_at judge (y ∷ ys) f (suc i) x e h = inr (site_at judge ys f i x e h)

-- what no site breaks
pub none_broken : {S : Type 0} (judge : S → Option Breach) (P : S → Type 0) → ((s : S) → judge s ≡ None → P s) → (xs : List S) → ((f : Fault) → HoldsIn (BreaksAt judge Plan) xs f → ⊥) → AllByRecursion P xs
none_broken judge P tells [] h = tt
none_broken judge P tells (x ∷ xs) h = (by (judge x) refl, none_broken judge P tells xs (λ f k. h f (inr k)))
  where
    by : (o : Option Breach) → judge x ≡ o → P x
    by None e = tells x e
    by (Some b) e = absurd (h (fault_by Plan b) (inl (ap (option_map (fault_by Plan)) e)))

-- ---- buffers

place_fault : (b : BufferLine) (t : Bool) (f : Fault) → option_map (fault_by Plan) (at_place code.BadBuffer b.place (not t)) ≡ Some f → (t ≡ false) × (f ≡ faults.at code.BadBuffer b.place)
place_fault b true f h = absurd (cc)
place_fault b false f h = let same : faults.at code.BadBuffer b.place ≡ f = cc in (refl, sym same)

module _ (x : PlanText) (are : AreNodes (nodes_of x)) where
  abbrev last : ℕ
  last = deepest 0 x.nodes

  buffer_sound : (f : Fault) → HoldsIn (BreaksAt (buffer_breach last) Plan) x.buffers f → BufferFault x f
  buffer_sound f h =
      let s = some_site (buffer_breach last) x.buffers f h in
      let p = place_fault s.site (is_buffer last s.site) f s.broken in
      record {
        index = s.index;
        buffer = s.site;
        there = s.there;
        bad = λ sound. let t : is_buffer last s.site ≡ true = (buffer_tells x.nodes are s.site).1 sound in absurd (differ (is_buffer last s.site) t p.0);
        is = p.1;
      }
    where
      differ : (b : Bool) → b ≡ true → b ≡ false → ⊥
      differ true t f = cc
      differ false t f = cc

  buffer_complete : (f : Fault) → BufferFault x f → HoldsIn (BreaksAt (buffer_breach last) Plan) x.buffers f
  buffer_complete f h = site_at (buffer_breach last) x.buffers f h.index h.buffer h.there (by (is_buffer last h.buffer) refl)
    where
      by : (t : Bool) → is_buffer last h.buffer ≡ t → option_map (fault_by Plan) (at_place code.BadBuffer h.buffer.place (not (is_buffer last h.buffer))) ≡ Some f
      by true e = absurd (h.bad ((buffer_tells x.nodes are h.buffer).0 e))
      by false e = ap (λ t. option_map (fault_by Plan) (at_place code.BadBuffer h.buffer.place (not t))) e ∙ ap (λ f. Some f) (sym h.is)

  pub first_buffer : IsFirst (BufferFault x) (firsts (buffer_breach last) (nothing_found Plan) x.buffers).fault
  first_buffer = first_same fault_place fault_number (firsts (buffer_breach last) (nothing_found Plan) x.buffers).fault buffer_sound buffer_complete (first_breach (buffer_breach last) Plan x.buffers)

  buffer_by : (b : BufferLine) → buffer_breach last b ≡ None → IsBufferLine (nodes_of x) b
  buffer_by b e = by (is_buffer last b) refl e
    where
      by : (t : Bool) → is_buffer last b ≡ t → at_place code.BadBuffer b.place (not t) ≡ None → IsBufferLine (nodes_of x) b
      by true t e = (buffer_tells x.nodes are b).0 t
      by false t e = absurd (cc)

  pub sound_buffers : ((f : Fault) → BufferFault x f → ⊥) → All (IsBufferLine (nodes_of x)) x.buffers
  sound_buffers h = All-from_recursion (IsBufferLine (nodes_of x)) x.buffers
      (none_broken (buffer_breach last) (IsBufferLine (nodes_of x)) buffer_by x.buffers (λ f k. h f (buffer_sound f k)))

-- ---- arrays

-- a bad array behind these
pub record BadBehind (buffers : List BufferLine) (before arrays : List ArrayLine) (f : Fault) : Type 0 where
  pub between : List ArrayLine
  pub array : ArrayLine
  pub later : List ArrayLine
  pub there : arrays ≡ between ++ array ∷ later
  pub bad : IsArrayLine buffers (before ++ between) array → ⊥
  pub is : f ≡ named code.BadArray array.name.place array.name.name

name_fault : (c : Code) (a : ArrayLine) (t : Bool) (f : Fault) → option_map (fault_by Plan) (at_name (if t then None else Some c) a.name.place a.name.name) ≡ Some f
    → (t ≡ false) × (f ≡ named c a.name.place a.name.name)
name_fault c a true f h = absurd (cc)
name_fault c a false f h = let same : named c a.name.place a.name.name ≡ f = cc in (refl, sym same)

append_none : {A : Type 0} (xs : List A) → xs ++ [] ≡ xs
append_none [] = refl
append_none (x ∷ xs) = ap (λ ys. x ∷ ys) (append_none xs)

module _ (buffers : List BufferLine) where
  abbrev Breaks : List Bytes → List ℕ → List ArrayLine → Fault → Type 0
  Breaks names taken ls f = HoldsIn (BreaksAt (array_breach buffers) Plan) (sites names taken ls) f

  abbrev test : List Bytes → List ℕ → ArrayLine → Bool
  test names taken a = (is_new_name names a.name.name && is_new_buffer taken a.buffer) && fits buffers a

  array_sound : (before : List ArrayLine) (names : List Bytes) (taken : List ℕ) (ls : List ArrayLine) (f : Fault) → Knows before names taken → Breaks names taken ls f → BadBehind buffers before ls f
  array_sound before names taken [] f k h = absurd h
  array_sound before names taken (a ∷ ls) f k (inl h) =
      let p = name_fault code.BadArray a (test names taken a) f h in
      record {
        between = [];
        array = a;
        later = ls;
        there = refl;
        bad = λ sound. let t : test names taken a ≡ true = (array_tells buffers before names taken k a).1 (subst (λ before. IsArrayLine buffers before a) (append_none before) sound) in absurd (differ (test names taken a) t p.0);
        is = p.1;
      }
    where
      differ : (b : Bool) → b ≡ true → b ≡ false → ⊥
      differ true t f = cc
      differ false t f = cc
  array_sound before names taken (a ∷ ls) f k (inr h) =
      let b = array_sound (before ++ a ∷ []) (with_name names a.name.name) (with_buffer taken a.buffer) ls f (knows_more before names taken a k) h in
      record {
        between = a ∷ b.between;
        array = b.array;
        later = b.later;
        there = ap (λ ls. a ∷ ls) b.there;
        bad = λ sound. b.bad (subst (λ before. IsArrayLine buffers before b.array) (sym (append_assoc before (a ∷ []) b.between)) sound);
        is = b.is;
      }

  array_complete : (before between : List ArrayLine) (a : ArrayLine) (later : List ArrayLine) (names : List Bytes) (taken : List ℕ) (f : Fault) → Knows before names taken
      → (IsArrayLine buffers (before ++ between) a → ⊥) → f ≡ named code.BadArray a.name.place a.name.name → Breaks names taken (between ++ a ∷ later) f
  array_complete before [] a later names taken f k bad is = inl (by (test names taken a) refl)
    where
      by : (t : Bool) → test names taken a ≡ t → option_map (fault_by Plan) (at_name (if test names taken a then None else Some code.BadArray) a.name.place a.name.name) ≡ Some f
      by true e = absurd (bad (subst (λ before. IsArrayLine buffers before a) (sym (append_none before)) ((array_tells buffers before names taken k a).0 e)))
      by false e = ap (λ t. option_map (fault_by Plan) (at_name (if t then None else Some code.BadArray) a.name.place a.name.name)) e ∙ ap (λ f. Some f) (sym is)
  array_complete before (b ∷ between) a later names taken f k bad is =
      inr (array_complete (before ++ b ∷ []) between a later (with_name names b.name.name) (with_buffer taken b.buffer) f (knows_more before names taken b k)
      (λ sound. bad (subst (λ before. IsArrayLine buffers before a) (append_assoc before (b ∷ []) between) sound)) is)

  sound_from : (before : List ArrayLine) (names : List Bytes) (taken : List ℕ) (ls : List ArrayLine) → Knows before names taken → ((f : Fault) → Breaks names taken ls f → ⊥) → AreArrays buffers before ls
  sound_from before names taken [] k h = tt
  sound_from before names taken (a ∷ ls) k h = (
    by (test names taken a) refl,
    sound_from (before ++ a ∷ []) (with_name names a.name.name) (with_buffer taken a.buffer) ls (knows_more before names taken a k) (λ f b. h f (inr b)),
  )
    where
      by : (t : Bool) → test names taken a ≡ t → IsArrayLine buffers before a
      by true e = (array_tells buffers before names taken k a).0 e
      by false e = absurd (h (named code.BadArray a.name.place a.name.name) (inl (ap (λ t. option_map (fault_by Plan) (at_name (if t then None else Some code.BadArray) a.name.place a.name.name)) e)))

array_faults : (x : PlanText) (f : Fault) → Breaks x.buffers [] [] x.arrays f → ArrayFault x f
array_faults x f h =
    let b = array_sound x.buffers [] [] [] x.arrays f knows_none h in
    record { before = b.between; array = b.array; later = b.later; there = b.there; bad = b.bad; is = b.is }

faults_array : (x : PlanText) (f : Fault) → ArrayFault x f → Breaks x.buffers [] [] x.arrays f
faults_array x f h = subst (λ ls. Breaks x.buffers [] [] ls f) (sym h.there) (array_complete x.buffers [] h.before h.array h.later [] [] f knows_none h.bad h.is)

pub first_array : (x : PlanText) → IsFirst (ArrayFault x) (firsts (array_breach x.buffers) (nothing_found Plan) (sites [] [] x.arrays)).fault
first_array x = first_same fault_place fault_number (firsts (array_breach x.buffers) (nothing_found Plan) (sites [] [] x.arrays)).fault (array_faults x) (faults_array x)
    (first_breach (array_breach x.buffers) Plan (sites [] [] x.arrays))

pub sound_arrays : (x : PlanText) → ((f : Fault) → ArrayFault x f → ⊥) → AreArrays x.buffers [] x.arrays
sound_arrays x h = sound_from x.buffers [] [] [] x.arrays knows_none (λ f b. h f (array_faults x f b))
