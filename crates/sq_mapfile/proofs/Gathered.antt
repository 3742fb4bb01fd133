-- The calls as they are gathered: callers and callees are among the instances.
use Rattle.std.proofs.Common.{◌≡◌, ℕ, suc, ◌+◌, ◌<◌, ◌≤◌, Bool, true, false, List, [], ◌∷◌, length, if◌then◌else◌, Option, Some, None, All, refl, arith}
use Rattle.std.proofs.lemmas.List.Elements.{All-cons}
use Rattle.sq_text.specs.Names.{same_name}
use Rattle.sq_text.specs.declared.word.Word.{Word}
use Rattle.sq_mapfile.specs.declared.text.ItemText.{ItemText}
use Rattle.sq_mapfile.specs.declared.text.ItemText.TheVariants.{Tunable, Call, Spread}
use Rattle.sq_mapfile.specs.declared.text.InstanceText.{InstanceText}
use Rattle.sq_mapping.specs.Names.{first_from}
use Rattle.sq_mapfile.specs.Names.{stands_before, index_of, call_index}
use Rattle.sq_mapfile.specs.Cycles.{CallText}
use Rattle.sq_mapfile.specs.Graph.{gathered, call_to, item_calls, items_calls, calls_from}
use Rattle.sq_mapfile.specs.Graph.{Adds, IsWithin}

-- an item for a task that has none before
pub one_call : (instances : List InstanceText) (caller : ℕ) (items : List ItemText) (k : ℕ) (old new : List CallText) (task name : Word) → stands_before (call_index items task.name) k ≡ false
    → Adds old new (call_to caller (index_of instances name.name) name) → Adds old new (item_calls instances caller items k (Call task name))
one_call instances caller items k old new task name none adds = λ later. rw none (adds later)

here_or_on : (b : Bool) (i k n : ℕ) (o : Option ℕ) → ((o ≡ Some k) → k < suc i + n) → (if b then Some i else o) ≡ Some k → k < i + suc n
here_or_on true i k n o on h = let e : i ≡ k = cc in omega (arith, e)
here_or_on false i k n o on h = let p = on h in omega (arith, p)

index_within : {A : Type 0} (test : A → Bool) (i : ℕ) (xs : List A) (k : ℕ) → first_from test i xs ≡ Some k → k < i + length xs
index_within test i [] k h = cc
index_within test i (x ∷ rest) k h = here_or_on (test x) i k (length rest) (first_from test (suc i) rest) (λ e. index_within test (suc i) rest k e) h

none_within : (n : ℕ) → All (IsWithin n) []
none_within n k d lt = absurd (omega (arith, lt))

call_within : (n caller : ℕ) (callee : Option ℕ) (name : Word) (later : List CallText) → caller < n → ((k : ℕ) → callee ≡ Some k → k < n) → All (IsWithin n) later → All (IsWithin n) (call_to caller callee name later)
call_within n caller None name later lt is h = h
call_within n caller (Some callee) name later lt is h =
    All-cons (IsWithin n) (record { caller = caller; callee = callee; name = name }) later (lt, is callee refl) h

chosen : (n : ℕ) (b : Bool) (xs ys : List CallText) → All (IsWithin n) xs → All (IsWithin n) ys → All (IsWithin n) (if b then xs else ys)
chosen n true xs ys p q = p
chosen n false xs ys p q = q

items_within : (instances : List InstanceText) (caller : ℕ) (items : List ItemText) (k : ℕ) (rest : List ItemText) (later : List CallText) → caller < length instances → All (IsWithin (length instances)) later
    → All (IsWithin (length instances)) (items_calls instances caller items k rest later)
items_within instances caller items k [] later lt h = h
items_within instances caller items k (Tunable name values ∷ rest) later lt h = items_within instances caller items (suc k) rest later lt h
items_within instances caller items k (Spread word rule ∷ rest) later lt h = items_within instances caller items (suc k) rest later lt h
items_within instances caller items k (Call task name ∷ rest) later lt h =
    let more = items_within instances caller items (suc k) rest later lt h in
    chosen (length instances) (stands_before (call_index items task.name) k) (items_calls instances caller items (suc k) rest later)
    (call_to caller (index_of instances name.name) name (items_calls instances caller items (suc k) rest later)) more
    (call_within (length instances) caller (index_of instances name.name) name (items_calls instances caller items (suc k) rest later) lt
    (λ k e. omega (arith, index_within (λ (x : InstanceText). same_name name.name x.name.name) 0 instances k e)) more)

from_within : (instances : List InstanceText) (i : ℕ) (xs : List InstanceText) → i + length xs ≤ length instances → All (IsWithin (length instances)) (calls_from instances i xs)
from_within instances i [] le = none_within (length instances)
from_within instances i (x ∷ rest) le =
    let more : suc i + length rest ≤ length instances = omega (arith, le) in
    let lt : i < length instances = omega (arith, le) in
    let later = from_within instances (suc i) rest more in
    chosen (length instances) (stands_before (index_of instances x.name.name) i) (calls_from instances (suc i) rest)
    (items_calls instances i x.items 0 x.items (calls_from instances (suc i) rest)) later
    (items_within instances i x.items 0 x.items (calls_from instances (suc i) rest) lt later)

pub all_within : (instances : List InstanceText) → All (IsWithin (length instances)) (gathered instances)
all_within instances = from_within instances 0 instances (omega arith)
