use Rattle.std.proofs.Common.{sym, ap, ◌∙◌}
use Rattle.sq_ir.specs.declared.term.Term.TheVariants as term
use Rattle.sq_planlines.specs.Narrow.{term_of, terms_of}
use Rattle.sq_planlines.proofs.Forms.{seq_here, par_here}
use Rattle.sq_planlines.proofs.terms.+forming.Goals as goal

pub term_of-returns-in_ok-terms-in-Seq : goal.term_of-returns-in_ok-terms-in-Seq
term_of-returns-in_ok-terms-in-Seq t c =
    let nodes = c.args.nodes.now in
    let here = c.args.here in
    ap term.Seq (c.in_ok-terms-in-Seq.ensures ∙ ap (λ xs. terms_of nodes xs here) c.as_slice.ensures)
    ∙ sym (ap (λ y. term_of nodes y here) c.in-Seq.is ∙ seq_here nodes c.in-Seq.parts here)

pub term_of-returns-in_ok-terms-in-Par : goal.term_of-returns-in_ok-terms-in-Par
term_of-returns-in_ok-terms-in-Par t c =
    let nodes = c.args.nodes.now in
    let here = c.args.here in
    ap term.Par (c.in_ok-terms-in-Par.ensures ∙ ap (λ xs. terms_of nodes xs here) c.as_slice-in-Par.ensures)
    ∙ sym (ap (λ y. term_of nodes y here) c.in-Par.is ∙ par_here nodes c.in-Par.parts here)
