use Rattle.sq_spec_laws.proofs.NeedsHold.{need_is_one, no_form_no_need, entry_is_at_root}
use Rattle.sq_spec_laws.proofs.LevelsHold.{forms_run_at_their_level}
use Rattle.sq_spec_laws.proofs.ReachedHold.{calls_are_those_reached}
use Rattle.sq_spec_laws.proofs.laws.needs_are_sound.Goals as goal

pub returns : goal.returns
returns c = record { one = need_is_one; none = no_form_no_need; root = entry_is_at_root; levels = forms_run_at_their_level; calls = calls_are_those_reached }
