-- The calls over a whole file, one after the other.
use Rattle.std.proofs.Common.{◌≡◌, ℕ, List, drop, ◌∙◌, ap}
use Rattle.sq_text.specs.declared.place.Place.{Place}
use Rattle.sq_arrays.specs.declared.window.Window.{Window}
use Rattle.sq_arrays.specs.Words.{within, is_over}
use Rattle.sq_arrays.specs.ArrayText.{start_of}
use Rattle.sq_arrays.specs.Steps.{rest_of}

pub rest_start : (w : Window) (bytes : List ℕ) → w.spot.at ≡ 0 → w.spot.place ≡ record { line = 1; col = 1 } → rest_of w bytes ≡ start_of bytes
rest_start w bytes at place =
    ap (λ (p : Place). record { place = p; text = drop w.spot.at (within bytes); over = is_over bytes }) place
    ∙ ap (λ (k : ℕ). record { place = record { line = 1; col = 1 }; text = drop k (within bytes); over = is_over bytes }) at
