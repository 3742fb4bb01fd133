use Rattle.std.proofs.Common.{◌∙◌, sym}
use Rattle.sq_arrays.proofs.InType.{fits_within}
use Rattle.sq_arrays.proofs.number.Number.value.Goals as goal

pub signed_of-requires : goal.signed_of-requires
signed_of-requires c = fits_within c.args.elem c.args.self.negative c.args.self.magnitude (sym c.fits_in.ensures ∙ c.if-fits_in.true)
