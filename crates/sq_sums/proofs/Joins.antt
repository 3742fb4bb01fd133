-- What several parts name outside themselves, one after another.
use Rattle.std.proofs.Common.{◌≡◌, ℕ, max, Bool, true, false, refl, arith}
use Rattle.std.specs.Prelude.{◌&&◌}
use Rattle.sq_sums.specs.declared.region.Region.{Region}
use Rattle.sq_sums.specs.Regions.{join}

max_join : (a b c : ℕ) → max (max a b) c ≡ max a (max b c)
max_join a b c = omega arith

and_join : (a b c : Bool) → ((a && b) && c) ≡ (a && (b && c))
and_join true b c = refl
and_join false b c = refl

pub join_join : (a b c : Region) → join (join a b) c ≡ join a (join b c)
join_join a b c = make (max_join a.loops b.loops c.loops) (and_join a.stays b.stays c.stays)
    (and_join a.routed b.routed c.routed)
  where
    make : {l k : ℕ} {s t u v : Bool} → l ≡ k → s ≡ t → u ≡ v
        → ◌≡◌ {A = Region} (record { loops = l; stays = s; routed = u }) (record { loops = k; stays = t; routed = v })
    make e f g = λ i. record { loops = e i; stays = f i; routed = g i }
