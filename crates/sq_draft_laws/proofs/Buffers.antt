-- The sizes of the buffers of a draft.
use Rattle.std.proofs.Common.{◌≡◌, ℕ, zero, suc, ◌+◌, ◌-◌, ◌<◌, List, []}
use Rattle.std.proofs.Common.{◌∷◌, ◌++◌, length, map, Option, Some, None, refl, sym}
use Rattle.std.proofs.Common.{subst, arith}
use Rattle.std.specs.Prelude.{slice_get}
use Rattle.std.specs.List.{range_with_len}
use Rattle.std.proofs.lemmas.Option.{get_or_from_slice_get}
use Rattle.sq_rect.specs.Extents.{product}
use Rattle.sq_leaf.specs.declared.shape.Shape.{Shape}
use Rattle.sq_ir.specs.Plans.{of_buffer}
use Rattle.sq_ir.specs.declared.plan.Buffer.{Buffer}
use Rattle.sq_spec.specs.declared.body.FormBody.{FormBody}
use Rattle.sq_spec.specs.declared.resolved.Resolved.{Resolved}
use Rattle.sq_placed.specs.Tables.{no_shape}
use Rattle.sq_program_laws.specs.Sizes.{IsSized}
use Rattle.sq_program_laws.proofs.Shapes.{mapped_at}
use Rattle.sq_homes.specs.Chosen.declared.choice.Choice.{Choice}
use Rattle.sq_homes.specs.Chosen.Forms.{bodies_of, choice_in}
use Rattle.sq_homes.specs.Drafts.{buffers_of, buffers_from, buffer_at}
use Rattle.sq_homes.specs.Chosen.Arrays.{standing, array_size, shape_size}
use Rattle.sq_draft_laws.specs.Choosing.{Walked}
use Rattle.sq_draft_laws.proofs.Forms.{body_at, sized, past_or}
use Rattle.sq_draft_laws.proofs.Sizes.{elements_small, size_small}

-- ---- sizes

AllSmall : List Buffer → Type 0
AllSmall [] = Unit {0}
AllSmall (x ∷ xs) = (x.size < 4294967296) × AllSmall xs

small_joined : (xs ys : List Buffer) → AllSmall xs → AllSmall ys → AllSmall (xs ++ ys)
unfolding AllSmall
small_joined [] ys g h = h
small_joined (x ∷ xs) ys g h = (g.0, small_joined xs ys g.1 h)

small_map : (f : ℕ → Buffer) (xs : List ℕ) → ((i : ℕ) → (f i).size < 4294967296) → AllSmall (map f xs)
unfolding AllSmall
small_map f [] h = tt
small_map f (x ∷ xs) h = (h x, small_map f xs h)

small_at : (xs : List Buffer) → AllSmall xs → (i : ℕ) → of_buffer xs (λ x. x.size) i < 4294967296
unfolding AllSmall
small_at [] h i = omega arith
small_at (x ∷ xs) h zero = h.0
small_at (x ∷ xs) h (suc i) = small_at xs h.1 i

Sized : FormBody → Type 0
Sized b = (n : ℕ) (x : Shape) → slice_get b.arrays n ≡ Some x → IsSized x.extents

array_small : (b : FormBody) → Sized b → (i : ℕ) → array_size b i < 4294967296
unfolding Sized
array_small b h i = by (slice_get b.arrays i) refl
  where
    by : (o : Option Shape) → slice_get b.arrays i ≡ o → array_size b i < 4294967296
    by None e = subst (λ (x : Shape). shape_size x < 4294967296) (sym (past_or b.arrays i no_shape e)) (omega arith)
    by (Some x) e =
        subst (λ (y : Shape). shape_size y < 4294967296) (sym (get_or_from_slice_get b.arrays i x no_shape e))
        (size_small x.elem x.extents (elements_small (product x.extents) (h i x e).few))

small_from : (r : Resolved) (choices : List Choice) (k : ℕ) (bs : List FormBody)
    → ((j : ℕ) (b : FormBody) → slice_get bs j ≡ Some b → Sized b) → AllSmall (buffers_from r choices k bs)
unfolding AllSmall
small_from r choices k [] h = tt
small_from r choices k (b ∷ bs) h =
    small_joined (map (buffer_at r k b) (standing b (choice_in choices k))) (buffers_from r choices (suc k) bs)
    (small_map (buffer_at r k b) (standing b (choice_in choices k)) (λ i. array_small b (h 0 b refl) i))
    (small_from r choices (suc k) bs (λ j c e. h (suc j) c e))

pub all_small : (r : Resolved) (w : Walked r) (choices : List Choice) (i : ℕ)
    → of_buffer (buffers_of r choices) (λ x. x.size) i < 4294967296
unfolding Sized
all_small r w choices = small_at (buffers_of r choices) (small_from r choices 0 (bodies_of r) each)
  where
    each : (j : ℕ) (b : FormBody) → slice_get (bodies_of r) j ≡ Some b → Sized b
    each j b e = let m = mapped_at (body_at r) (range_with_len 0 (length r.forms)) j b e in
        subst Sized m.is (sized r w m.of)
