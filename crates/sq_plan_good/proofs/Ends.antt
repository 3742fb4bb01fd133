-- The ends of forms: of each its own bytes, behind its caller's end where that is at the same level.
use Rattle.std.proofs.Common.{◌≡◌, ℕ, zero, suc, ◌+◌, ◌<◌, ◌==◌, List, [], ◌∷◌, ◌++◌, length, slice_get}
use Rattle.std.proofs.Common.{Option, Some, None, refl, sym, ap, ◌∙◌, arith, length-append}
use Rattle.std.proofs.Common.{if◌then◌else◌}
use Rattle.sq_ast.specs.declared.program.Variant.{Variant}
use Rattle.sq_mapping.specs.declared.mapping.Instance.{Instance}
use Rattle.sq_forms.specs.declared.form.Form.{Form}
use Rattle.sq_forms.specs.declared.form.Caller.{Caller}
use Rattle.sq_spec_laws.specs.Needs.{Ended, own_size, end_at, callers_end, end_of, ends_from, ends}

front : {A : Type 0} (xs ys : List A) (i : ℕ) → i < length xs → slice_get (xs ++ ys) i ≡ slice_get xs i
front [] ys i h = absurd (omega (arith, h))
front (x ∷ xs) ys zero h = refl
front (x ∷ xs) ys (suc i) h = front xs ys i (omega (arith, h))

last : {A : Type 0} (xs : List A) (x : A) → slice_get (xs ++ x ∷ []) (length xs) ≡ Some x
last [] x = refl
last (y ∷ xs) x = last xs x

abbrev ended : Form → ℕ → Option Ended
ended f n = Some (f, n)

nothing_more : (n : ℕ) → 0 + n ≡ n
nothing_more n = omega arith

abbrev no_ends : List Ended
no_ends = []

module _ (variants : List Variant) (instances : List Instance) where
  -- what is done stays
  kept : (fs : List Form) (done : List Ended) (i : ℕ) → i < length done
      → slice_get (ends_from variants instances done fs) i ≡ slice_get done i
  kept [] done i h = refl
  kept (f ∷ fs) done i h =
      let more : Ended = (f, end_of variants instances done f) in
      let long = length-append done (more ∷ []) in
      kept fs (done ++ more ∷ []) i (omega (arith, h, long)) ∙ front done (more ∷ []) i h

  record EndsThere (all : List Ended) (f : Form) (k : ℕ) : Type 0 where
    before : List Ended
    long : length before ≡ k
    there : slice_get all k ≡ Some (f, end_of variants instances before f)
    same : (i : ℕ) → i < k → slice_get all i ≡ slice_get before i

  ends_there : (fs : List Form) (done : List Ended) (j : ℕ) (f : Form) (k : ℕ) → slice_get fs j ≡ Some f
      → k ≡ length done + j → EndsThere (ends_from variants instances done fs) f k
  ends_there [] done j f k h e = cc
  ends_there (g ∷ fs) done zero f k h e =
      let is : g ≡ f = cc h in
      let at : k ≡ length done = omega (arith, e) in
      let more : Ended = (g, end_of variants instances done g) in
      let long = length-append done (more ∷ []) in
      record {
        before = done;
        long = sym at;
        there = ap (slice_get (ends_from variants instances (done ++ more ∷ []) fs)) at
            ∙ kept fs (done ++ more ∷ []) (length done) (omega (arith, long)) ∙ last done more
            ∙ ap (λ (q : Form). ended q (end_of variants instances done q)) is;
        same = λ i l. kept fs (done ++ more ∷ []) i (omega (arith, l, at, long)) ∙ front done (more ∷ []) i (omega (arith, l, at));
      }
  ends_there (g ∷ fs) done (suc j) f k h e =
      let more : Ended = (g, end_of variants instances done g) in
      let long = length-append done (more ∷ []) in
      ends_there fs (done ++ more ∷ []) j f k h (omega (arith, e, long))

  module _ (forms : List Form) where
    -- the form with this number ends there
    pub record EndIs (k n : ℕ) : Type 0 where
      pub form : Form
      pub form_there : slice_get forms k ≡ Some form
      pub there : slice_get (ends variants instances forms) k ≡ Some (form, n)

    some_pair : (a c : Ended) → Some a ≡ Some c → a.1 ≡ c.1
    some_pair a c h = let e : a ≡ c = cc h in ap (λ (p : Ended). p.1) e

    pub end_is : (k n : ℕ) (f : Form) (e : Ended) → EndIs k n → slice_get (ends variants instances forms) k ≡ Some e
        → e.1 ≡ n
    end_is k n f e g h = some_pair e (g.form, n) (sym h ∙ g.there)

    pub entry_end : (k : ℕ) (f : Form) → slice_get forms k ≡ Some f → f.caller ≡ None
        → EndIs k (own_size variants instances f)
    entry_end k f h none =
        let z : k ≡ length no_ends + k = omega arith in
        let at = ends_there forms [] k f k h z in
        record {
          form = f;
          form_there = h;
          there = at.there ∙ ap (λ (n : ℕ). ended f (n + own_size variants instances f)) (ap (callers_end at.before f.level) none)
              ∙ ap (ended f) (nothing_more (own_size variants instances f));
        }

    pub some_end : (k : ℕ) (f : Form) → slice_get forms k ≡ Some f → (n : ℕ) × EndIs k n
    some_end k f h =
        let z : k ≡ length no_ends + k = omega arith in
        let at = ends_there forms [] k f k h z in
        (end_of variants instances at.before f, record { form = f; form_there = h; there = at.there })

    pub call_end : (k m n call : ℕ) (from to : Form) → slice_get forms m ≡ Some to
        → to.caller ≡ Some (record { form = k; call = call }) → k < m → slice_get forms k ≡ Some from → EndIs k n
        → EndIs m ((if from.level == to.level then n else 0) + own_size variants instances to)
    call_end k m n call from to h called less there g =
        let z : m ≡ length no_ends + m = omega arith in
        let at = ends_there forms [] m to m h z in
        let same_form : g.form ≡ from = (let y : Some g.form ≡ Some from = sym g.form_there ∙ there in cc y) in
        let before : slice_get at.before k ≡ Some (g.form, n) = sym (at.same k less) ∙ g.there in
        record {
          form = to;
          form_there = h;
          there = at.there
              ∙ ap (λ (o : Option Caller). ended to (callers_end at.before to.level o + own_size variants instances to)) called
              ∙ ap (λ (o : Option Ended). ended to (end_at to.level o + own_size variants instances to)) before
              ∙ ap (λ (q : Form). ended to ((if q.level == to.level then n else 0) + own_size variants instances to)) same_form;
        }
