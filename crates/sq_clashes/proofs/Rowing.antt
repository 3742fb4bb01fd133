-- The rows of events, one more at a time.
use Rattle.std.proofs.Common.{◌≡◌, ℕ, suc, ◌+◌, ◌<◌, ◌⊎◌, inl, inr, List, [], ◌∷◌, ◌++◌, length, slice_get, Some, refl, sym, ap, subst, ◌∙◌, arith}
use Rattle.sq_touches.specs.declared.act.Act.{Act}
use Rattle.sq_plan_check.specs.declared.entry.Entry.{Entry}
use Rattle.sq_plan_check.specs.declared.reach.Row.{Row}
use Rattle.sq_plan_check.proofs.Sweeping.{last_of, front_of, length_more, below_or}
use Rattle.sq_clashes.specs.Colors.{own_color}
use Rattle.sq_clashes.specs.Reached.{IsRowOf, AreRowsTo, AreRows}
use Rattle.sq_clashes.proofs.Items.{inside, one_item}

pub rows_none : (entries : List Entry) (acts : List Act) (rows : List Row) → rows ≡ [] → AreRowsTo entries acts 0 rows
rows_none entries acts rows e = subst (AreRowsTo entries acts 0) (sym e) (record { all = refl; each = λ i e a row h k r. cc })

module _ (entries : List Entry) (acts : List Act) (n : ℕ) (rows : List Row) (new : List Row) (row : Row) (entry : Entry) (act : Act) (so_far : AreRowsTo entries acts n rows) (pushed : new ≡ rows ++ row ∷ [])
    (entry_at : slice_get entries n ≡ Some entry) (act_at : slice_get acts n ≡ Some act) (is_row : IsRowOf (own_color n) entry act row) where
  each : (i : ℕ) (e : Entry) (a : Act) (r : Row) → slice_get entries i ≡ Some e → slice_get acts i ≡ Some a → slice_get new i ≡ Some r → IsRowOf (own_color i) e a r
  each i e a r ei ai ri = by (below_or i n (omega (arith, l, m, k)))
    where
      g : slice_get (rows ++ row ∷ []) i ≡ Some r
      g = sym (ap (λ l. slice_get l i) pushed) ∙ ri

      l : i < length (rows ++ row ∷ [])
      l = inside (rows ++ row ∷ []) i r g

      m : length (rows ++ row ∷ []) ≡ suc (length rows)
      m = length_more rows row

      k : length rows ≡ n
      k = so_far.all

      by : (i < n) ⊎ (i ≡ n) → IsRowOf (own_color i) e a r
      by (inl x) = so_far.each i e a r ei ai (sym (front_of rows row i (omega (arith, x, k))) ∙ g)
      by (inr x) =
          let same_entry = one_item entry e (sym entry_at ∙ ap (slice_get entries) (sym x) ∙ ei) in
          let same_act = one_item act a (sym act_at ∙ ap (slice_get acts) (sym x) ∙ ai) in
          let same_row = last_of rows row r i g (omega (arith, x, k)) in
          subst (λ z. IsRowOf (own_color z) e a r) (sym x) (subst (λ z. IsRowOf (own_color n) z a r) same_entry (subst (λ z. IsRowOf (own_color n) entry z r) same_act (subst (IsRowOf (own_color n) entry act) same_row is_row)))

  pub rows_more : AreRowsTo entries acts (n + 1) new
  rows_more = record {
    all = let m = length_more rows row in let e = ap length pushed in let k = so_far.all in omega (arith, m, e, k);
    each = each;
  }

pub rows_all : (entries : List Entry) (acts : List Act) (n : ℕ) (rows : List Row) → AreRowsTo entries acts n rows → n ≡ length entries → AreRows entries acts rows
rows_all entries acts n rows h e = subst (λ m. AreRowsTo entries acts m rows) e h
