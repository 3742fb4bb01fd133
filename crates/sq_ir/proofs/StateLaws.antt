-- What may be asked of a plan by its form.
use Rattle.std.proofs.Common.{◌≡◌, true}
use Rattle.sq_ir.specs.Events.{AreIndependent}
use Rattle.sq_ir.specs.Plans.{HaveRoom}
use Rattle.sq_ir.specs.StateLaws.{HoldsWhereOpen, HaveRoomWhereOpen, UnorderedByForm, IndependentByForm}
use Rattle.sq_ir.proofs.Open.{each-state}
use Rattle.sq_ir.proofs.Places.{each-unordered, unordered-each}
use Rattle.sq_ir.proofs.Reordering.{independent-sym}

pub holds_where_open : (E S : Type 0) → HoldsWhereOpen E S
holds_where_open E S test t h = each-state (λ scopes. test scopes ≡ true) t h

pub have_room_where_open : HaveRoomWhereOpen
have_room_where_open s t h = each-state (HaveRoom s) t h

pub unordered_by_form : (E S : Type 0) → UnorderedByForm E S
unordered_by_form E S test sym_ t = record {
  there = λ h. each-unordered (λ e f. test e f ≡ true) t h;
  back = λ h. unordered-each (λ e f. test e f ≡ true) t sym_ h;
}

pub independent_by_form : (C : Type 0) → IndependentByForm C
independent_by_form C leaves t = record {
  there = λ h. each-unordered (AreIndependent leaves) t h;
  back = λ h. unordered-each (AreIndependent leaves) t (independent-sym leaves) h;
}
