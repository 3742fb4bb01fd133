use Rattle.std.proofs.Common.{◌≡◌, List, ℕ, length, drop, rules, sym, ap, ap₂, ◌∙◌, arith, map, None, Some, Option}
use Rattle.std.specs.Option.{option_copied}
use Rattle.sq_text.specs.declared.spread.SpreadRule.{SpreadRule}
use Rattle.sq_ir.specs.declared.term.Term.TheVariants as term
use Rattle.sq_ir.specs.Leaf.declared.shape.Shape.{Shape}
use Rattle.sq_spec.specs.declared.statement.Statement.TheVariants as statement
use Rattle.sq_tables.specs.Placed.Tables.{Pipe, placed_locals}
use Rattle.sq_tables.specs.Term.Terms.{body_in, homes_in, all_terms, count_num, in_map, where_some}
use Rattle.sq_draft.specs.declared.forms.Places.{Places}
use Rattle.sq_draft.specs.Building.{callee_in, part_in, pipe_by}
use Rattle.sq_draft.specs.Piping.{seen, piped_at, in_child}
use Rattle.sq_draft.proofs.Made.{loop_made, map_made, form_made}
use Rattle.sq_draft.proofs.MadePipes.{piped_made, places_have}
use Rattle.sq_draft.proofs.build.+build.Goals as goal

pub form_term-returns : goal.form_term-returns
form_term-returns t c =
    c.in_ok-made.ensures
    ∙ form_made c.args.forms.now.depth c.in-Some.depth c.args.forms.now.bodies.now c.args.forms.now.homes.now
    c.args.form
    c.in-Some-at.own.now c.in-Some-at-2.body.now c.args.c.now (omega (arith, c.in-Some.ensures))
    (sym c.at.ensures ∙ ap option_copied c.in-Some-at.is) (sym c.at-2.ensures ∙ ap option_copied c.in-Some-at-2.is)

pub loop_term-returns : goal.loop_term-returns
loop_term-returns t c =
    let bodies = c.args.forms.now.bodies.now in
    let homes = c.args.forms.now.homes.now in
    let depth = c.args.forms.now.depth in
    let its = c.args.table.now in
    c.in_ok-made.ensures
    ∙ loop_made (body_in bodies) (homes_in homes) (callee_in bodies homes depth) c.args.round.rule
    its.kind its.counts.now its.starts.now its.body.now c.args.round.inside c.args.c.now
    c.spread_of-spread.result c.in_ok-count.count c.in_ok-parts.parts c.any_lower-lower.result c.any_same-same.result
    c.round_in-inner.result.rule c.round_in-inner.result.op c.round_in-inner.result.inside
    c.any_lower-lower.ensures c.any_same-same.ensures c.spread_of-spread.ensures
    c.round_in-inner.ensures.rule c.round_in-inner.ensures.op c.round_in-inner.ensures.inside
    c.in_ok-count.ensures
    (c.in_ok-parts.ensures
    ∙ ap (λ (z : Option SpreadRule). all_terms
    (map (part_in bodies homes depth c.round_in-inner.result.rule) its.body.now)
    c.round_in-inner.result.op c.round_in-inner.result.inside
    (in_map z c.in_ok-count.count its.starts.now c.args.c.now)) c.round_in-inner.ensures.spread)

pub statement-returns-in_ok-made-in-Map : goal.statement-returns-in_ok-made-in-Map
statement-returns-in_ok-made-in-Map t c =
    c.in_ok-made-in-Map.ensures
    ∙ map_made c.args.forms.now.bodies.now c.args.forms.now.homes.now c.args.forms.now.depth c.args.round.rule
    c.args.x.now c.in-Map.place c.in-Map.kind c.as_slice-numbers.result.now c.as_slice-before.result.now
    c.as_slice-list.result.now c.args.round.op c.args.round.inside c.args.c.now
    (c.in-Map.is
    ∙ ap (λ l. statement.Map c.in-Map.place c.in-Map.kind l c.in-Map.starts c.in-Map.body)
    (sym c.as_slice-numbers.ensures)
    ∙ ap (λ l. statement.Map c.in-Map.place c.in-Map.kind c.as_slice-numbers.result.now l c.in-Map.body)
    (sym c.as_slice-before.ensures)
    ∙ ap (λ l. statement.Map c.in-Map.place c.in-Map.kind c.as_slice-numbers.result.now c.as_slice-before.result.now l)
    (sym c.as_slice-list.ensures))

pub piped_at-returns : goal.piped_at-returns
piped_at-returns t c = c.in_ok-made.ensures ∙ (λ i. in_child c.args.spread (c.in_ok-shell.ensures.child i)
    (c.in_ok-shell.ensures.buffers i) (where_some (c.in_ok-shell.ensures.many i) (term.Seq (c.in_ok-parts.ensures i))))

pub piped_call-piped_at-requires : goal.piped_call-piped_at-requires
piped_call-piped_at-requires t c =
    let h = places_have c.in_ok-places.places c.args.spread (count_num c.args.counts.now c.args.c.now)
    c.args.pipe.now.starts.now c.args.c.now c.args.pipe.now.call.instances.now c.args.pipe.now.call.offsets.now c.in_ok-places.ensures
    c.requires in
    (search rules, (h.outer, (h.inner, h.work)))

pub piped_call-returns : goal.piped_call-returns
piped_call-returns t c =
    let callee = callee_in c.args.forms.now.bodies.now c.args.forms.now.homes.now c.args.forms.now.depth in
    let pipe = seen c.args.pipe.now in
    c.in_ok-made.ensures
    ∙ ap (λ (s : Places). piped_at callee pipe c.args.spread s c.args.c.now) c.in_ok-places.ensures

pub piped-returns : goal.piped-returns
piped-returns t c =
    let bodies = c.args.forms.now.bodies.now in
    let homes = c.args.forms.now.homes.now in
    let depth = c.args.forms.now.depth in
    let counts = c.args.table.now.counts.now in
    let starts = c.args.table.now.starts.now in
    let row = c.in-Some.row.now in
    let own = c.in-Some-at.own.now in
    let bd = c.in-Some-at-2.body.now in
    let locals : c.local_shapes.result.now ≡ drop (length own.params) bd.arrays =
    c.local_shapes.ensures ∙ ap₂ (λ (n : ℕ) (xs : List Shape). drop n xs) c.len.ensures c.as_slice.ensures in
    c.in_ok-made.ensures
    ∙ piped_made bodies homes depth c.pipe.inside.rows.now counts starts c.args.c.now c.pipe.inside.spread row own bd
    (record {
      op = None;
      form = row.form;
      shapes = c.as_slice.result.now;
      params = c.as_slice-2.result.now;
      locals = placed_locals c.local_shapes.result.now c.as_slice-5.result.now;
      rows = c.pipe.inside.rows.now;
      args = c.as_slice-6.result.now;
      starts = c.in_ok-starts.starts;
    })
    (sym c.at.ensures ∙ ap option_copied c.in-Some.is) (sym c.at-2.ensures ∙ ap option_copied c.in-Some-at.is)
    (sym c.at-3.ensures ∙ ap option_copied c.in-Some-at-2.is) (λ i. record {
      op = None;
      form = row.form;
      shapes = c.as_slice.ensures i;
      params = c.as_slice-2.ensures i;
      locals = placed_locals (locals i) (c.as_slice-5.ensures i);
      rows = c.pipe.inside.rows.now;
      args = c.as_slice-6.ensures i;
      starts = c.in_ok-starts.ensures i;
    })
    ∙ ap (λ (z : Pipe). pipe_by bodies homes depth (Some z) counts starts c.args.c.now term.Skip) c.pipe.view_is
