-- What the reading of the data leaves in the arrays.
use Rattle.std.proofs.Common.{◌≡◌, ℕ, suc, ◌+◌, Bool, true, false, List, [], ◌∷◌, map, Option, Some, Result, Ok, Err, length, slice_get, if◌then◌else◌, refl, sym, ◌∙◌, ap, subst, arith}
use Rattle.std.specs.Prelude.{ℤ}
use Rattle.std.specs.List.{AllZip}
use Rattle.std.proofs.lemmas.List.{length-replicate}
use Rattle.sq_port.specs.Ports.{Content}
use Rattle.sq_text.specs.declared.place.Place.{Place}
use Rattle.sq_text.specs.declared.code.Code.{Code}
use Rattle.sq_text.specs.declared.code.Phase.TheVariants.{Input}
use Rattle.sq_text.specs.declared.fault.Arg.{Arg}
use Rattle.sq_text.specs.declared.fault.Fault.{Fault}
use Rattle.sq_ast.specs.declared.program.Param.{Param}
use Rattle.sq_arrays.specs.Arrays.{Wanted, arrays_of, size_of, AreValuesOf}
use Rattle.sq_arrays.specs.Targets.{GivesArrays, Refuses, name_at, HasRoom, cells_of}
use Rattle.sq_arrays.specs.Causes.{IsThereUnlessFailed}
use Rattle.sq_arrays.specs.Window.{IsTold, IsThere}
use Rattle.sq_arrays.specs.declared.refusal.ArraysEnd.{ArraysEnd}
use Rattle.sq_arrays.specs.declared.refusal.InputCode.{InputCode}
use Rattle.sq_arrays.specs.declared.refusal.InputEnd.{InputEnd}
use Rattle.sq_arrays.specs.declared.refusal.InputEnd.TheVariants.{Refused}
use Rattle.sq_leaf.specs.declared.shape.Shape.{Shape}
use Rattle.sq_ast.specs.Modes.{is_read}
use Rattle.sq_spec.specs.Works.{extents_at, param_shapes}
use Rattle.sq_spec.specs.declared.resolved.Resolved.{Resolved}
use Rattle.sq_flat.specs.Memory as memory
use Rattle.sq_flat.specs.Held.{Stored, zero_bytes}
use Rattle.sq_driver.specs.Data.{code_for, args_for}
use Rattle.sq_driver.specs.declared.outside.end.End.{End}
use Rattle.sq_driver.specs.declared.outside.end.End.TheVariants as end
use Rattle.sq_driver.specs.Entry.{params_of, want_of, wants_of}
use Rattle.sq_driver.specs.Givens.{Given, Unfit, Extents, read_wants}
use Rattle.sq_driver.specs.Picking.{picked, unpicked, KeepsOthers, IsFilled, ReadsData, AreGiven, IsUnfit, ReadsGiven}
use Rattle.sq_driver.proofs.Entries.{entry_small, wants_small}
use Rattle.sq_driver.proofs.Starts.{starts}

-- an end that is written out
pub there_at : (told : Option Content) (name : List ℕ) (end : InputEnd) (code : InputCode) (place : Place)
    → end ≡ Refused code place → IsThereUnlessFailed {T = Unit {0}} told name (Err end) → IsThere told name
there_at told name end code place is there = subst
    (λ (e : InputEnd). IsThereUnlessFailed {T = Unit {0}} told name (Err e)) is there

module _ (ws : List Wanted) (told : Option Content) (name : List ℕ) (arrays : List (List ℕ))
    (result : Result (Unit {0}) ArraysEnd)
    (gives : (bytes : List ℕ) → IsTold told name bytes → GivesArrays ws arrays result (arrays_of ws bytes))
    (there : IsThere told name) where
  pub given_values : (value : Unit {0}) → result ≡ Ok value → (c : Content) → told ≡ Some c → Given ws (c name) arrays
  given_values value ok c is =
      let file = there.there c is in
      let found = subst (λ (r : Result (Unit {0}) ArraysEnd). GivesArrays ws arrays r (arrays_of ws file.0)) ok
      (gives file.0 (record { content = c; is = is; there = file.1 })) in
      record { bytes = file.0; there = file.1; values = found.0; read = found.1; are = found.2 }

  pub unfit : (ended : ArraysEnd) (end : InputEnd) (code : InputCode) (place : Place) (that : Code) (args : List Arg)
      → result ≡ Err ended → ended.end ≡ end → end ≡ Refused code place
      → that ≡ code_for code → args ≡ args_for (name_at ws ended.array)
      → (c : Content) → told ≡ Some c
      → Unfit ws (c name) (record { phase = Input; code = that; place = Some place; args = args })
  unfit ended end code place that args ends its_end refused same are c is =
      let file = there.there c is in
      let err = subst (λ (r : Result (Unit {0}) ArraysEnd). GivesArrays ws arrays r (arrays_of ws file.0)) ends
      (gives file.0 (record { content = c; is = is; there = file.1 })) in
      record {
        bytes = file.0;
        there = file.1;
        found = record { code = code; place = place; name = name_at ws ended.array };
        read = subst (λ (e : InputEnd). Refuses ws ended.array e (arrays_of ws file.0)) (its_end ∙ refused) err;
        is = ap (λ (k : Code). record { phase = Input; code = k; place = Some place; args = args }) same
            ∙ ap (λ (a : List Arg). record { phase = Input; code = code_for code; place = Some place; args = a }) are;
      }

module _ (params : List Param) (ws : List Wanted) (told : Option Content) (name : List ℕ) (old : Stored) where
  pub filled : (now_params : List Param) (now : Stored) (result : Result (Unit {0}) ArraysEnd) (value : Unit {0})
      → result ≡ Ok value → KeepsOthers params now_params old now → IsThere told name
      → ((bytes : List ℕ) → IsTold told name bytes → GivesArrays ws (picked now_params now.bytes) result
      (arrays_of ws bytes)) → IsFilled params ws told name old now
  filled now_params now result value ok keeps there gives = record {
    shapes = keeps.shapes;
    count = keeps.count;
    others = keeps.others;
    read = λ c is.
        subst (λ (ps : List Param). Given ws (c name) (picked ps now.bytes)) keeps.params_is
        (given_values ws told name (picked now_params now.bytes) result gives there value ok c is);
  }

-- ---- room for the data

zeros_long : (n : ℕ) → length (memory.zeros n) ≡ n
zeros_long n = length-replicate n 0

room_step : (b : Bool) (s : Shape) (w : Wanted) (ws : List Wanted) (list : List (List ℕ))
    → memory.size_of s ≡ size_of w → map length list ≡ map size_of ws
    → map length (if b then memory.zeros (memory.size_of s) ∷ list else list) ≡ map size_of (if b then w ∷ ws else ws)
room_step true s w ws list same rest = ap (λ (n : ℕ). n ∷ map length list) (zeros_long (memory.size_of s) ∙ same)
    ∙ ap (λ (l : List ℕ). size_of w ∷ l) rest
room_step false s w ws list same rest = rest

zero_sizes : (ps : List Param) (i : ℕ) (extents : List (List ℕ))
    → map length (picked ps (zero_bytes (param_shapes ps i extents))) ≡ map size_of (wants_of is_read ps i extents)
zero_sizes [] i extents = refl
zero_sizes (p ∷ ps) i extents =
    room_step (is_read p.mode) (record { elem = p.elem; extents = extents_at (slice_get extents i) })
    (want_of p i extents) (wants_of is_read ps (i + 1) extents)
    (picked ps (zero_bytes (param_shapes ps (i + 1) extents))) (omega arith) (zero_sizes ps (i + 1) extents)

pub has_room : (r : Resolved) (its : Extents r) (ws : List Wanted) (list : List (List ℕ)) → ws ≡ read_wants r its
    → list ≡ zero_bytes (param_shapes (params_of r.typed.now r.mapping.now) 0 its.extents)
    → HasRoom ws (picked (params_of r.typed.now r.mapping.now) list)
has_room r its ws list wants zeros =
    subst (λ (l : List (List ℕ)). HasRoom ws (picked (params_of r.typed.now r.mapping.now) l)) (sym zeros) (
    subst (λ (x : List Wanted). HasRoom x
    (picked (params_of r.typed.now r.mapping.now)
    (zero_bytes (param_shapes (params_of r.typed.now r.mapping.now) 0 its.extents)))) (sym wants) (record {
      sizes = zero_sizes (params_of r.typed.now r.mapping.now) 0 its.extents;
      small = wants_small is_read (params_of r.typed.now r.mapping.now) 0 its.extents
          (entry_small r.mapping.now.sizes (params_of r.typed.now r.mapping.now) its.extents its.are);
    }))

-- ---- the arrays of a program's entry

length_zeros : (shapes : List Shape) → length (zero_bytes shapes) ≡ length shapes
length_zeros [] = refl
length_zeros (s ∷ shapes) = ap suc (length_zeros shapes)

length_shapes : (ps : List Param) (i : ℕ) (extents : List (List ℕ)) → length (param_shapes ps i extents) ≡ length ps
length_shapes [] i extents = refl
length_shapes (p ∷ ps) i extents = ap suc (length_shapes ps (i + 1) extents)

module _ (r : Resolved) (its : Extents r) (told : Option Content) (name : List ℕ) (ws : List Wanted)
    (wants : ws ≡ read_wants r its) (old : Stored)
    (shapes : old.shapes ≡ param_shapes (params_of r.typed.now r.mapping.now) 0 its.extents)
    (zeros : old.bytes ≡ zero_bytes old.shapes)
    (law : (ws : List Wanted) (bytes : List ℕ) (vss : List (List ℤ)) → arrays_of ws bytes ≡ Ok vss
    → AllZip AreValuesOf ws vss) where
  all_zeros : old.bytes ≡ zero_bytes (param_shapes (params_of r.typed.now r.mapping.now) 0 its.extents)
  all_zeros = zeros ∙ ap zero_bytes shapes

  given : (now : Stored) → IsFilled (params_of r.typed.now r.mapping.now) ws told name old now → (c : Content)
      → told ≡ Some c → AreGiven r (c name) now
  given now filled c is =
      let got = filled.read c is in
      let read : arrays_of (read_wants r its) got.bytes ≡ Ok got.values = subst
      (λ (x : List Wanted). arrays_of x got.bytes ≡ Ok got.values) wants got.read in
      record {
        its = its;
        bytes = got.bytes;
        there = got.there;
        values = got.values;
        read = read;
        holds = record {
          held = λ k shape cs there inside.
              starts (params_of r.typed.now r.mapping.now) 0 its.extents now.bytes got.values
              (filled.count ∙ (ap length all_zeros
              ∙ (length_zeros (param_shapes (params_of r.typed.now r.mapping.now) 0 its.extents)
              ∙ length_shapes (params_of r.typed.now r.mapping.now) 0 its.extents)))
              (got.are ∙ ap (λ (x : List Wanted). cells_of x got.values) wants)
              (filled.others ∙ ap (unpicked (params_of r.typed.now r.mapping.now)) all_zeros)
              (law (read_wants r its) got.bytes got.values read)
              k shape cs (subst (λ (l : List Shape). slice_get l k ≡ Some shape) (filled.shapes ∙ shapes) there) inside;
        };
      }

  unfit_given : (c : Content) (f : Fault) → Unfit ws (c name) f → IsUnfit r (c name) f
  unfit_given c f bad = record { entry = its; unfit = subst (λ (x : List Wanted). Unfit x (c name) f) wants bad }

  pub reads_given : (result : Result Stored End) → ReadsData (params_of r.typed.now r.mapping.now) ws told name old
      result → ReadsGiven r told name result
  reads_given (Ok now) filled = given now filled
  reads_given (Err end.Usage) stops = stops
  reads_given (Err (end.Absent at)) stops = stops
  reads_given (Err (end.FileFault at)) stops = stops
  reads_given (Err (end.Refused f)) stops = λ c is. unfit_given c f (stops c is)
  reads_given (Err (end.Trapped trap)) stops = stops
  reads_given (Err end.NoMemory) stops = stops
  reads_given (Err end.SinkFault) stops = stops
