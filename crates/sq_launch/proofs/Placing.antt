-- Where the arrays of an entry stand.
use Rattle.std.proofs.Common.{◌≡◌, ℕ, zero, suc, ◌*◌, ◌^◌, ◌<◌, ◌≤◌, Bool, true, false, if◌then◌else◌, List, [], ◌∷◌, ◌++◌, append_assoc, drop, length, map, get_or, None, refl, sym, ◌∙◌, ap, subst, arith}
use Rattle.std.specs.List.{All}
use Rattle.std.proofs.lemmas.List.{length-take-le, length-drop}
use Rattle.std.proofs.lemmas.List.Elements.{All-nil, All-cons, All-head, All-tail}
use Rattle.sq_num.specs.declared.Elem.{Elem}
use Rattle.sq_num.specs.declared.Elem.TheVariants.{Byte, Int, Long}
use Rattle.sq_num.specs.Elements.{width}
use Rattle.sq_rect.specs.Extents.{product}
use Rattle.sq_ast.specs.Modes.{is_read}
use Rattle.sq_arrays.specs.Arrays.{Wanted, size_of}
use Rattle.sq_ir.specs.Plans.{node_at, tree_of}
use Rattle.sq_leaf.specs.declared.trap.Trap.{Trap}
use Rattle.sq_sched.specs.Rests.{Rest}
use Rattle.sq_ir.specs.declared.plan.Plan.{Plan}
use Rattle.sq_ir.specs.declared.plan.PlanNode.{PlanNode}
use Rattle.sq_tree.specs.Bank.{size_in}
use Rattle.sq_root.specs.declared.place.Place.{Place}
use Rattle.sq_root.specs.Flagged.{flagged}
use Rattle.sq_root.specs.Places.{part, IsWithin, Fits}
use Rattle.sq_root.specs.PlaceLaws.{FlaggedFit}
use Rattle.sq_planfile.specs.declared.entry.EntryArray.{EntryArray}
use Rattle.sq_launch.specs.Arrays.{AreSmall, want_of, those_read, wants_of, place_of, places_of, read_places}
use Rattle.sq_launch.specs.Starts.{BanksHaveRoom, PlacesHaveSizes, SizesAreSmall}

-- ---- how many bytes an array has

pub size_small : (e : Elem) (n : ℕ) → n ≤ 2 ^ 26 → n * width e < 2 ^ 64
size_small Byte n few = omega (arith, few)
size_small Int n few = omega (arith, few)
size_small Long n few = omega (arith, few)

-- its elements are counted by 64 bits
pub count_fits : (n m : ℕ) → n ≡ m → m ≤ 2 ^ 26 → n < 2 ^ 64
count_fits n m same few = omega (arith, same, few)

-- and so are its bytes
pub size_fits : (e : Elem) (n m w : ℕ) → n ≡ m → w ≡ width e → m ≤ 2 ^ 26 → n * w < 2 ^ 64
size_fits e n m w same is few =
    subst (λ (k : ℕ). n * k < 2 ^ 64) (sym is) (subst (λ (k : ℕ). k * width e < 2 ^ 64) (sym same) (size_small e m few))

one_more : (b : Bool) (a : EntryArray) (arrays : List EntryArray) → size_of (want_of a) < 2 ^ 64
    → All (λ w. size_of w < 2 ^ 64) (map want_of arrays)
    → All (λ w. size_of w < 2 ^ 64) (map want_of (if b then a ∷ arrays else arrays))
one_more true a arrays first rest = All-cons (λ w. size_of w < 2 ^ 64) (want_of a) (map want_of arrays) first rest
one_more false a arrays first rest = rest

pub sizes_are_small : SizesAreSmall
sizes_are_small [] small = All-nil (λ w. size_of w < 2 ^ 64)
sizes_are_small (a ∷ arrays) small =
    one_more (is_read a.mode) a (those_read arrays)
    (size_small a.elem (product a.extents) (All-head (λ (a : EntryArray). product a.extents ≤ 2 ^ 26) a arrays small))
    (sizes_are_small arrays (All-tail (λ (a : EntryArray). product a.extents ≤ 2 ^ 26) a arrays small))

-- ---- the arrays that are read

same_sizes : (p : Plan) (arrays : List EntryArray)
    → map (λ (q : Place). q.size) (places_of p arrays) ≡ map size_of (map want_of arrays)
same_sizes p [] = refl
same_sizes p (a ∷ arrays) = ap (λ (ns : List ℕ). product a.extents * width a.elem ∷ ns) (same_sizes p arrays)

pub places_have_sizes : PlacesHaveSizes
places_have_sizes p arrays = same_sizes p (those_read arrays)

turned : (b : Bool) (p : Plan) (a : EntryArray) (arrays : List EntryArray)
    → places_of p (if b then a ∷ arrays else arrays) ≡ (if b then place_of p a ∷ places_of p arrays else places_of p arrays)
turned true p a arrays = refl
turned false p a arrays = refl

abbrev pub flags_of : List EntryArray → List Bool
flags_of arrays = map (λ a. is_read a.mode) arrays

-- they are picked from all
pub picked : (p : Plan) (arrays : List EntryArray) → read_places p arrays ≡ flagged (flags_of arrays) (places_of p arrays)
picked p [] = refl
picked p (a ∷ arrays) =
    turned (is_read a.mode) p a (those_read arrays)
    ∙ ap (λ (l : List Place). if is_read a.mode then place_of p a ∷ l else l) (picked p arrays)

-- ---- the root of a bank

pub root_size : (ns : List (List ℕ)) (ps : List PlanNode) → map length ns ≡ map (λ (n : PlanNode). n.capacity) ps
    → size_in ns 0 ≡ (node_at ps 0).capacity
root_size [] [] same = refl
root_size [] (p ∷ ps) same = cc
root_size (n ∷ ns) [] same = cc
root_size (n ∷ ns) (p ∷ ps) same = cc

pub banks_have_room : FlaggedFit → BanksHaveRoom
banks_have_room law p arrays seen room prepared =
    let fit : Fits (places_of p arrays) (size_in seen.nodes 0) = subst (λ (n : ℕ). Fits (places_of p arrays) n)
    (sym (root_size seen.nodes p.nodes prepared.sizes)) room.fit in (
      fit,
      subst (λ (l : List Place). Fits l (size_in seen.nodes 0)) (sym (picked p arrays))
          (law (flags_of arrays) (places_of p arrays) (size_in seen.nodes 0) fit),
    )

-- ---- one array more

pub place_step : (p : Plan) (a : EntryArray) (arrays : List EntryArray) (old now all : List Place) (place : Place)
    → is_read a.mode ≡ true → place ≡ place_of p a → now ≡ old ++ place ∷ []
    → old ++ read_places p (a ∷ arrays) ≡ all → now ++ read_places p arrays ≡ all
place_step p a arrays old now all place flag is more before =
    ap (λ (l : List Place). l ++ read_places p arrays) (more ∙ ap (λ (q : Place). old ++ q ∷ []) is)
    ∙ (append_assoc old (place_of p a ∷ []) (read_places p arrays)
    ∙ (ap (λ (l : List Place). old ++ l)
    (sym (ap (λ (b : Bool). places_of p (if b then a ∷ those_read arrays else those_read arrays)) flag)) ∙ before))

pub skip_step : {X : Type 0} (f : EntryArray → X) (a : EntryArray) (arrays : List EntryArray) (old all : List X)
    → is_read a.mode ≡ false → old ++ map f (those_read (a ∷ arrays)) ≡ all → old ++ map f (those_read arrays) ≡ all
skip_step {X} f a arrays old all flag before =
    ap (λ (l : List X). old ++ l)
    (sym (ap (λ (b : Bool). map f (if b then a ∷ those_read arrays else those_read arrays)) flag)) ∙ before

pub want_step : (a : EntryArray) (arrays : List EntryArray) (old now all : List Wanted) → is_read a.mode ≡ true
    → now ≡ old ++ want_of a ∷ [] → old ++ wants_of (a ∷ arrays) ≡ all → now ++ wants_of arrays ≡ all
want_step a arrays old now all flag more before =
    ap (λ (l : List Wanted). l ++ wants_of arrays) more
    ∙ (append_assoc old (want_of a ∷ []) (wants_of arrays)
    ∙ (ap (λ (l : List Wanted). old ++ l)
    (sym (ap (λ (b : Bool). map want_of (if b then a ∷ those_read arrays else those_read arrays)) flag)) ∙ before))

-- ---- the array of that number

array_at : (P : EntryArray → Type 0) (arrays : List EntryArray) (i : ℕ) (a : EntryArray) → All P arrays
    → i < length arrays → a ≡ get_or arrays i a → P a
array_at P arrays i a all below is = subst P (sym is) (all i a below)

pub small_at : (arrays : List EntryArray) (i : ℕ) (a : EntryArray) → AreSmall arrays → i < length arrays
    → a ≡ get_or arrays i a → product a.extents ≤ 2 ^ 26
small_at arrays i a small below is = array_at (λ (a : EntryArray). product a.extents ≤ 2 ^ 26) arrays i a small below is

its_place : (p : Plan) (arrays : List EntryArray) (n i : ℕ) (a : EntryArray) → All (IsWithin n) (places_of p arrays)
    → i < length arrays → a ≡ get_or arrays i a → IsWithin n (place_of p a)
its_place p [] n i a all below is = absurd (omega (arith, below))
its_place p (b ∷ arrays) n zero a all below is = subst (λ (x : EntryArray). IsWithin n (place_of p x)) (sym is)
    (All-head (IsWithin n) (place_of p b) (places_of p arrays) all)
its_place p (b ∷ arrays) n (suc i) a all below is = its_place p arrays n i a
    (All-tail (IsWithin n) (place_of p b) (places_of p arrays) all) (omega (arith, below)) is

-- its place lies in the root, and has as many bytes as the array
pub place_at : (p : Plan) (arrays : List EntryArray) (n i : ℕ) (a : EntryArray) (q : Place)
    → All (IsWithin n) (places_of p arrays) → i < length arrays → a ≡ get_or arrays i a → q ≡ place_of p a
    → IsWithin n q
place_at p arrays n i a q all below is same = subst (λ (x : Place). IsWithin n x) (sym same)
    (its_place p arrays n i a all below is)

pub part_long : (p : Plan) (a : EntryArray) (q : Place) (root bytes : List ℕ) → IsWithin (length root) q
    → q ≡ place_of p a → bytes ≡ part q root → length bytes ≡ product a.extents * width a.elem
part_long p a q root bytes within same is =
    ap length is
    ∙ (length-take-le q.size (drop q.at root) (omega (arith, within, length-drop q.at root))
    ∙ ap (λ (x : Place). x.size) same)

-- a control that has not begun, of another spelling of its plan
pub control_of : (c : Rest Trap) (p q : Plan) → c ≡ record { plan = p; left = tree_of p; ended = None } → p ≡ q
    → c ≡ record { plan = q; left = tree_of q; ended = None }
control_of c p q is same = subst (λ (x : Plan). c ≡ record { plan = x; left = tree_of x; ended = None }) same is
