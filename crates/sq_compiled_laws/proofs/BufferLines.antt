-- The lines of the buffers of a program's plan: each ends within 2^30 bytes at a level of the machine, and can be read.
use Rattle.std.proofs.Common.{◌≡◌, ℕ, zero, suc, ◌+◌, ◌<◌, ◌≤◌, ◌^◌, List, [], ◌∷◌, ◌++◌, map, length, get_or, slice_get, Some, refl, sym, ap, subst, arith}
use Rattle.std.specs.List.{All, Contains}
use Rattle.sq_forms.specs.Steps.{most_forms}
use Rattle.sq_form_laws.proofs.RanHold.{few_found}
use Rattle.sq_ir.specs.declared.plan.Buffer.{Buffer}
use Rattle.sq_ir.specs.declared.plan.Plan.{Plan}
use Rattle.sq_ir.specs.declared.plan.PlanNode.{PlanNode}
use Rattle.sq_ir.specs.Machines.{AreNodes}
use Rattle.sq_ir.specs.Plans.{of_buffer, setting_of}
use Rattle.sq_spec.specs.declared.body.Body.{Body}
use Rattle.sq_spec.specs.declared.body.Body.TheVariants as body
use Rattle.sq_spec.specs.declared.body.FormBody.{FormBody}
use Rattle.sq_spec.specs.declared.resolved.Resolved.{Resolved}
use Rattle.sq_meant.specs.PlanGood.DraftLaws.Choosing.{Walked}
use Rattle.sq_meant.specs.PlanGood.Homes.Chosen.declared.choice.Choice.{Choice}
use Rattle.sq_meant.specs.PlanGood.Homes.Chosen.Forms.{bodies_of, choice_in, name_by, instance_at}
use Rattle.sq_meant.specs.PlanGood.Homes.Drafts.{buffers_from, buffers_of, buffer_at, leaves_from, leaves_of, leaves_in}
use Rattle.sq_meant.specs.PlanGood.Homes.Chosen.Arrays.{standing}
use Rattle.sq_meant.proofs.PlanGood.DraftLaws.Forms.{resolving, many_forms}
use Rattle.sq_meant.proofs.PlanGood.DraftLaws.Hoisting.{bodies_many}
use Rattle.sq_meant.proofs.PlanGood.DraftLaws.Levels.{levels_are_there}
use Rattle.sq_plantext.specs.declared.text.BufferLine.{BufferLine}
use Rattle.sq_planfile.specs.Files.{node_of}
use Rattle.sq_planfile.specs.Sound.{IsBufferLine}
use Rattle.sq_planfile.specs.Written.{line_of, buffer_lines}
use Rattle.sq_filed_laws.specs.LayoutLaws.Readable.{IsShort, IsReadableBuffer}
use Rattle.sq_compiled_laws.proofs.Each.{Each, all, at, both}
use Rattle.sq_compiled_laws.proofs.BufferNames.{IsNamed}
use Rattle.sq_compiled_laws.proofs.EntryArrays.{line_at}
use Rattle.sq_compiled_laws.proofs.Nodes.{has_level, is_in}

-- each buffer of the plan ends within so many bytes
pub record EndWithin (most : ℕ) (p : Plan) : Type 0 where
  pub ends : (b : ℕ) (x : Buffer) → slice_get p.draft.buffers b ≡ Some x → get_or p.offsets b 0 + x.size ≤ most

pub nodes_back : (ns : List PlanNode) → map node_of (map line_of ns) ≡ ns
nodes_back [] = refl
nodes_back (n ∷ ns) = ap (λ ms. n ∷ ms) (nodes_back ns)

-- ---- levels

module _ (r : Resolved) (w : Walked r) (choices : List Choice) where
  abbrev HasLevel : Buffer → Type 0
  HasLevel b = b.level < length r.machine.now.levels

  form_leveled : (k : ℕ) (b : FormBody) (is : List ℕ) → Each HasLevel (map (buffer_at r k b) is)
  form_leveled k b [] = tt
  form_leveled k b (i ∷ is) = (levels_are_there r w k, form_leveled k b is)

  from_leveled : (k : ℕ) (bs : List FormBody) → Each HasLevel (buffers_from r choices k bs)
  from_leveled k [] = tt
  from_leveled k (b ∷ bs) =
      both HasLevel (map (buffer_at r k b) (standing b (choice_in choices k))) (buffers_from r choices (suc k) bs)
      (form_leveled k b (standing b (choice_in choices k))) (from_leveled (suc k) bs)

  pub buffers_leveled : Each HasLevel (buffers_of r choices)
  buffers_leveled = from_leveled 0 (bodies_of r)

-- ---- lines

lines_each : (P : BufferLine → Type 0) (n : ℕ) (os : List ℕ) (bs : List Buffer)
    → ((i : ℕ) (x : Buffer) → slice_get bs i ≡ Some x → P (line_at (get_or os (n + i) 0) x)) → Each P (buffer_lines n os bs)
lines_each P n os [] h = tt
lines_each P n os (b ∷ bs) h =
    let first : n + 0 ≡ n = omega arith in (
      subst (λ (k : ℕ). P (line_at (get_or os k 0) b)) first (h 0 b refl),
      lines_each P (suc n) os bs (λ i x e.
          let next : n + suc i ≡ suc n + i = omega arith in
          subst (λ (k : ℕ). P (line_at (get_or os k 0) x)) next (h (suc i) x e)),
    )

module _ (p : Plan) (levels : ℕ) (are : AreNodes p.nodes) (many : are.levels ≡ levels) (leveled : Each (λ (b : Buffer). b.level < levels) p.draft.buffers)
    (within : EndWithin (2 ^ 30) p) where
  abbrev lines : List BufferLine
  lines = buffer_lines 0 p.offsets p.draft.buffers

  abbrev nodes : List PlanNode
  nodes = map node_of (map line_of p.nodes)

  ends : (i : ℕ) (x : Buffer) → slice_get p.draft.buffers i ≡ Some x → get_or p.offsets (0 + i) 0 + x.size ≤ 2 ^ 30
  ends i x e =
      let zero_on : i ≡ 0 + i = omega arith in
      subst (λ (k : ℕ). get_or p.offsets k 0 + x.size ≤ 2 ^ 30) zero_on (within.ends i x e)

  line_is : (i : ℕ) (x : Buffer) → slice_get p.draft.buffers i ≡ Some x → IsBufferLine nodes (line_at (get_or p.offsets (0 + i) 0) x)
  line_is i x e =
      let low = at (λ (b : Buffer). b.level < levels) p.draft.buffers i x leveled e in
      let has = has_level p.nodes are x.level (omega (arith, low, many)) in
      record {
        node = has.node;
        there = subst (λ (ns : List PlanNode). Contains ns has.node) (sym (nodes_back p.nodes)) (is_in p.nodes has.index has.node has.there);
        level = has.level;
        within = ends i x e;
      }

  pub lines_sound : All (IsBufferLine nodes) lines
  lines_sound = all (IsBufferLine nodes) lines (lines_each (IsBufferLine nodes) 0 p.offsets p.draft.buffers line_is)

  line_readable : Each IsNamed p.draft.buffers → (i : ℕ) (x : Buffer) → slice_get p.draft.buffers i ≡ Some x
      → IsReadableBuffer (line_at (get_or p.offsets (0 + i) 0) x)
  line_readable named i x e =
      let low = at (λ (b : Buffer). b.level < levels) p.draft.buffers i x leveled e in
      let few = are.few_levels in
      let end = ends i x e in
      let its = at IsNamed p.draft.buffers i x named e in
      record {
        numbers = all IsShort (x.level ∷ get_or p.offsets (0 + i) 0 ∷ x.size ∷ [])
            (omega (arith, low, few, many), (omega (arith, end), (omega (arith, end), tt)));
        instance = its.instance;
        array = its.array;
      }

  pub lines_readable : Each IsNamed p.draft.buffers → All IsReadableBuffer lines
  lines_readable named = all IsReadableBuffer lines (lines_each IsReadableBuffer 0 p.offsets p.draft.buffers (line_readable named))

-- a buffer has at most so many bytes, whether it is there or not
sizes_by : (bs : List Buffer) (b : ℕ) → ((x : Buffer) → slice_get bs b ≡ Some x → x.size ≤ 2 ^ 30) → of_buffer bs (λ (x : Buffer). x.size) b ≤ 2 ^ 30
sizes_by [] b h = omega arith
sizes_by (x ∷ bs) zero h = h x refl
sizes_by (x ∷ bs) (suc b) h = sizes_by bs b h

pub small_sizes : (p : Plan) → EndWithin (2 ^ 30) p → (b : ℕ) → (setting_of p).size b ≤ 2 ^ 30
small_sizes p within b = sizes_by p.draft.buffers b (λ x e. let l = within.ends b x e in omega (arith, l))

-- ---- leaves

leaves_few : (r : Resolved) (k : ℕ) (bs : List FormBody) → length (leaves_from r k bs) ≤ length bs
leaves_few r k [] = omega arith
leaves_few r k (b ∷ bs) = by b.body (leaves_few r (suc k) bs)
  where
    by : (x : Body) → length (leaves_from r (suc k) bs) ≤ length bs → length (leaves_in (name_by (instance_at r k)) x ++ leaves_from r (suc k) bs) ≤ suc (length bs)
    by (body.Leaf code) l = omega (arith, l)
    by (body.Inner list) l = omega (arith, l)

few_forms : (n : ℕ) → n ≤ most_forms → n < 2 ^ 63
unfolding most_forms
few_forms n h = omega (arith, h)

pub few_leaves : (r : Resolved) → Walked r → (choices : List Choice) → length (leaves_of r) < 2 ^ 63
few_leaves r w choices =
    let a = few_forms (length r.found.entries) (few_found r.typed.now.tasks r.mapping.now (resolving r) w.through) in
    let b = many_forms r w in
    let c = bodies_many r choices in
    let d = leaves_few r 0 (bodies_of r) in
    omega (arith, a, b, c, d)
