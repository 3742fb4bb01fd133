-- A call in plain loops is the one call of its statement.
use Rattle.std.proofs.Common.{◌≡◌, ℕ, suc, ◌+◌, ◌==◌, ◌<◌, true, List, [], ◌∷◌, ◌++◌}
use Rattle.std.proofs.Common.{length, Option, Some, None, refl, sym, ◌∙◌, ap, subst, arith}
use Rattle.sq_text.specs.declared.place.Place.{Place}
use Rattle.sq_work.specs.declared.reduction.Reduction.{Reduction}
use Rattle.sq_spec.specs.declared.statement.LoopKind.TheVariants as loop_kind
use Rattle.sq_spec.specs.declared.statement.CallInstance.{CallInstance}
use Rattle.sq_spec.specs.declared.statement.Statement.{Statement}
use Rattle.sq_spec.specs.declared.statement.Statement.TheVariants as b
use Rattle.sq_spec_laws.specs.TableRows.{Table, tables_of}
use Rattle.sq_spec_laws.proofs.TableRowsHold.{tables_call, tables_map}
use Rattle.sq_placed.specs.Tables.{Chain, one_more, first_of}
use Rattle.sq_draft_laws.specs.TermLaws.Orders.{EachOf, Round, rounds_in}
use Rattle.sq_draft_laws.specs.ProgramLaws.Held.{Begun, begun}
use Rattle.sq_draft_laws.proofs.ProgramLaws.Rounds.{rounds_call, rounds_map}
use Rattle.sq_draft_laws.proofs.ProgramLaws.Loops.{begun_call, begun_map, each_map}
use Rattle.sq_pipe.specs.Hoist.Loops.{Nest, looped}
use Rattle.sq_pass_laws.proofs.Nests.{nest_of, IsCall, Climbs, climb, longer, same_number}
use Rattle.sq_pass_laws.proofs.HoistLists.{all_each}

-- the chain of a statement, with so many loops and these rows
pub record IsChain (x : Statement) (n : ℕ) (its : List CallInstance) : Type 0 where
  pub chain : Chain ℕ
  pub is : (begun x).chain ≡ Some chain
  pub loops : chain.loops ≡ n
  pub rows : chain.instances ≡ its

-- its table, its round and its chain
pub record IsAlone (x : Statement) (n : Nest) : Type 0 where
  pub rows : List CallInstance
  pub some : 0 < length rows
  pub form : EachOf (λ (q : CallInstance). q.form ≡ n.form) rows
  pub table : (red : Option Reduction) → (by : Option Reduction)
      × (tables_of x red ≡ record { red = by; lower = true; times = rows } ∷ [])
  pub round : (k : ℕ) → rounds_in x k ≡ record { loops = k + length n.loops; rows = rows } ∷ []
  pub chain : IsChain x (length n.loops) rows

call_alone : (rows : List CallInstance) (n : Nest) → IsCall true rows n → IsAlone (b.Call true rows) n
call_alone rows n c = record {
  rows = rows;
  some = c.some;
  form = each_map (λ (q : CallInstance). (q.form == n.form) ≡ true) (λ (q : CallInstance). q.form ≡ n.form) rows
      (λ q e. same_number q.form n.form e) (all_each (λ (q : CallInstance). q.form == n.form) rows c.form);
  table = λ red. (red, ap (λ (f : Option Reduction → List Table). f red) (tables_call true rows));
  round = λ k.
      let z : k ≡ k + length n.loops = (let e = ap length c.loops in omega (arith, e)) in
      ap (λ (f : ℕ → List Round). f k) (rounds_call true rows)
      ∙ ap (λ (j : ℕ). record { loops = j; rows = rows } ∷ []) z;
  chain = record {
    chain = record { loops = 0; instances = rows; first = λ x. x };
    is = ap (λ (p : Begun). p.chain) (begun_call true rows);
    loops = sym (ap length c.loops);
    rows = refl;
  };
}

pub one_more_is : (starts : List ℕ) (o : Option (Chain ℕ)) (h : Chain ℕ) → o ≡ Some h
    → one_more first_of starts o
    ≡ Some (record { loops = suc h.loops; instances = h.instances; first = λ k. h.first (first_of starts k) })
one_more_is starts o h e = ap (one_more first_of starts) e

loop_alone : (place : Place) (counts starts : List ℕ) (x : Statement) (n : Nest) → IsAlone x n
    → IsAlone (b.Map place loop_kind.Sequential counts starts (x ∷ [])) (looped place counts n)
loop_alone place counts starts x n h =
    let y = b.Map place loop_kind.Sequential counts starts (x ∷ []) in record {
      rows = h.rows;
      some = h.some;
      form = h.form;
      table = λ red. let t = h.table None in (
        t.0,
        ap (λ (f : Option Reduction → List Table). f red) (tables_map place loop_kind.Sequential counts starts (x ∷ []))
            ∙ ap (λ (ts : List Table). ts ++ []) t.1,
      );
      round = λ k.
          let e = longer n.loops place in
          let z : suc k + length n.loops ≡ k + length (looped place counts n).loops = omega (arith, e) in
          ap (λ (f : ℕ → List Round). f k) (rounds_map place loop_kind.Sequential counts starts (x ∷ []))
          ∙ h.round (suc k)
          ∙ ap (λ (j : ℕ). record { loops = j; rows = h.rows } ∷ []) z;
      chain = record {
        chain = record {
          loops = suc h.chain.chain.loops;
          instances = h.chain.chain.instances;
          first = λ k. h.chain.chain.first (first_of starts k);
        };
        is = ap (λ (p : Begun). p.chain) (begun_map place loop_kind.Sequential counts starts (x ∷ []))
            ∙ one_more_is starts (begun x).chain h.chain.chain h.chain.is;
        loops = ap suc h.chain.loops ∙ sym (longer n.loops place);
        rows = h.chain.rows;
      };
    }

alone_climbs : (caller : ℕ) → Climbs caller IsAlone
alone_climbs caller = record {
  call = λ lower rows n c. subst (λ l. IsAlone (b.Call l rows) n) (sym c.is_lower)
      (call_alone rows n (subst (λ l. IsCall l rows n) c.is_lower c));
  loop = λ place counts starts x n is some h. loop_alone place counts starts x n h;
}

pub is_alone : (caller : ℕ) (x : Statement) (n : Nest) → nest_of caller x ≡ Some n → IsAlone x n
is_alone caller = climb caller IsAlone (alone_climbs caller)
