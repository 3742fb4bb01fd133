-- Where no argument leaves a loop, nothing is asked of loops.
use Rattle.std.proofs.Common.{◌≡◌, ℕ, get_or, Option, Some, None, slice_get}
use Rattle.sq_spec.specs.declared.statement.CallInstance.{CallInstance}
use Rattle.sq_placed.specs.declared.home.Home.TheVariants.{InPlace, Held}
use Rattle.sq_placed.specs.declared.home.Homes.{Homes}
use Rattle.sq_term_laws.specs.Orders.{rounds_of, params_of}
use Rattle.sq_term_laws.specs.Held.{IsHeldRow}
use Rattle.sq_program_laws.specs.Held.{loops_of, UnheldFits}
use Rattle.sq_program_laws.proofs.Loops.{each_from}

module _ (homes : ℕ → Homes) (none : (f i u n : ℕ) → get_or (homes f).params i InPlace ≡ Held u n → ⊥) where
  stay : (o : Option CallInstance) (i u n : ℕ) → get_or (params_of homes o) i InPlace ≡ Held u n → ⊥
  stay None i u n e = absurd (cc e)
  stay (Some r) i u n e = none r.form i u n e

pub unheld_fits : UnheldFits
unheld_fits bodies homes none = record {
  rounds = λ f. each_from _ (rounds_of (bodies f).body) (λ m q at. each_from (IsHeldRow homes q) q.rows (λ j r there.
      record {
        some = λ i u n e. absurd (none r.form i u n e);
        round = λ i u n e. absurd (none r.form i u n e);
        one = λ i u n e. absurd (none r.form i u n e);
      }));
  loops = λ k. each_from _ (loops_of (bodies k).body) (λ m l at. record {
    some = λ i u n e le. absurd (stay homes none (slice_get l.chain.instances 0) i u n e);
    stays = λ i u e. absurd (stay homes none (slice_get l.chain.instances 0) i u l.chain.loops e);
  });
}
