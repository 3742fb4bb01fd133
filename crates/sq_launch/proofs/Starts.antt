-- The memories from which a run starts.
use Rattle.std.proofs.Common.{◌≡◌, ℕ, zero, suc, ◌+◌, ◌-◌, ◌<◌, ◌≤◌, ◌⊎◌, inl, inr, List, [], ◌∷◌, length, map, replicate, get_or, refl, sym, ◌∙◌, ap, ap₂, subst, arith}
use Rattle.std.specs.List.{All}
use Rattle.std.proofs.lemmas.List.{length-map, length-replicate, get_or-take, get_or-drop, ext_get_or}
use Rattle.std.proofs.lemmas.List.Elements.{All-nil, All-cons}
use Rattle.sq_ir.specs.Plans.{node_at}
use Rattle.sq_ir.specs.declared.plan.Plan.{Plan}
use Rattle.sq_ir.specs.declared.plan.PlanNode.{PlanNode}
use Rattle.sq_tree.specs.Bank.{IsPrepared, bytes_at, size_in, zeros}
use Rattle.sq_tree.specs.Prepared.{OpenedArePrepared}
use Rattle.sq_root.specs.declared.place.Place.{Place}
use Rattle.sq_root.specs.Places.{part, parts, IsOutside}
use Rattle.sq_root.specs.PlaceLaws.{PreparedStays}
use Rattle.sq_planfile.specs.declared.entry.EntryArray.{EntryArray}
use Rattle.sq_launch.specs.Arrays.{read_places}
use Rattle.sq_launch.specs.Starts.{IsStart, read_parts, FilledAreStarts}

-- ---- zeros

first_zeros : (nodes : List PlanNode) → bytes_at (zeros nodes) 0 ≡ replicate (node_at nodes 0).capacity 0
first_zeros [] = refl
first_zeros (n ∷ ns) = refl

zeros_sizes : (nodes : List PlanNode) → map length (zeros nodes) ≡ map (λ (n : PlanNode). n.capacity) nodes
zeros_sizes [] = refl
zeros_sizes (n ∷ ns) = ap₂ (λ (k : ℕ) (ks : List ℕ). k ∷ ks) (length-replicate n.capacity 0) (zeros_sizes ns)

zero_byte : (n i : ℕ) → ◌≡◌ {A = ℕ} (get_or (replicate n 0) i 0) 0
zero_byte zero i = refl
zero_byte (suc n) zero = refl
zero_byte (suc n) (suc i) = zero_byte n i

-- where bytes of some arrays were read, zeros stand in all others
pub filled_are_starts : OpenedArePrepared → PreparedStays → FilledAreStarts
filled_are_starts law stays p arrays old opened filled opens keeps =
    let prepared : IsPrepared p opened = law p old opened opens in (
      prepared,
      (
        stays p (read_places p arrays) opened filled prepared keeps,
        record {
          sizes = keeps.sizes ∙ (ap (λ (ns : List (List ℕ)). map length ns) opens.nodes ∙ zeros_sizes p.nodes);
          outside = λ i out.
              keeps.outside i out
              ∙ (ap (λ (ns : List (List ℕ)). get_or (bytes_at ns 0) i 0) opens.nodes
              ∙ (ap (λ (root : List ℕ). get_or root i 0) (first_zeros p.nodes) ∙ zero_byte (node_at p.nodes 0).capacity i));
          others = λ node other. keeps.others node other ∙ ap (λ (ns : List (List ℕ)). bytes_at ns node) opens.nodes;
        },
      ),
    )

-- ---- one start

-- a byte of one of the places has one value
abbrev Tells : (one other : List ℕ) → List Place → ℕ → Type 0
Tells one other places i = All (IsOutside i) places ⊎ (get_or one i 0 ≡ get_or other i 0)

inside : (q : Place) (one other : List ℕ) (i : ℕ) → part q one ≡ part q other → q.at ≤ i → i < q.at + q.size
    → get_or one i 0 ≡ get_or other i 0
inside q one other i same from below =
    let k : ℕ = i - q.at in
    let there : q.at + k ≡ i = omega (arith, from) in
    let less : k < q.size = omega (arith, from, below) in
    subst (λ (j : ℕ). get_or one j 0 ≡ get_or other j 0) there
    (sym (get_or-take q.size _ k 0 less ∙ get_or-drop q.at one k 0)
    ∙ (ap (λ (l : List ℕ). get_or l k 0) same ∙ (get_or-take q.size _ k 0 less ∙ get_or-drop q.at other k 0)))

order : (a b : ℕ) → (a < b) ⊎ (b ≤ a)
order zero zero = inr (omega arith)
order zero (suc b) = inl (omega arith)
order (suc a) zero = inr (omega arith)
order (suc a) (suc b) = up (order a b)
  where
    up : (a < b) ⊎ (b ≤ a) → (suc a < suc b) ⊎ (suc b ≤ suc a)
    up (inl h) = inl (omega (arith, h))
    up (inr h) = inr (omega (arith, h))

tells : (one other : List ℕ) (places : List Place) (i : ℕ) → parts places one ≡ parts places other
    → Tells one other places i
tells one other [] i same = inl (All-nil (IsOutside i))
tells one other (q ∷ qs) i same = go (order i q.at) (order i (q.at + q.size)) (tells one other qs i (let rest : parts qs one ≡ parts qs other = cc in rest))
  where
    here : part q one ≡ part q other
    here = cc

    more : IsOutside i q → Tells one other qs i → Tells one other (q ∷ qs) i
    more out (inl all) = inl (All-cons (IsOutside i) q qs out all)
    more out (inr is) = inr is

    go : (i < q.at) ⊎ (q.at ≤ i) → (i < q.at + q.size) ⊎ (q.at + q.size ≤ i) → Tells one other qs i
        → Tells one other (q ∷ qs) i
    go (inl low) b rest = more (inl low) rest
    go (inr from) (inl below) rest = inr (inside q one other i here from below)
    go (inr from) (inr high) rest = more (inr high) rest

module _ (p : Plan) (arrays : List EntryArray) (one other : List (List ℕ)) (first : IsStart p arrays one)
    (second : IsStart p arrays other) (read : read_parts p arrays one ≡ read_parts p arrays other) where
  same_sizes : map length one ≡ map length other
  same_sizes = first.sizes ∙ sym second.sizes

  size_at : (xs ys : List (List ℕ)) → map length xs ≡ map length ys → (n : ℕ) → size_in xs n ≡ size_in ys n
  size_at [] [] same n = refl
  size_at [] (y ∷ ys) same n = cc
  size_at (x ∷ xs) [] same n = cc
  size_at (x ∷ xs) (y ∷ ys) same zero = cc
  size_at (x ∷ xs) (y ∷ ys) same (suc n) = size_at xs ys (let rest : map length xs ≡ map length ys = cc in rest) n

  root_byte : (i : ℕ) → get_or (bytes_at one 0) i 0 ≡ get_or (bytes_at other 0) i 0
  root_byte i = by (tells (bytes_at one 0) (bytes_at other 0) (read_places p arrays) i read)
    where
      by : Tells (bytes_at one 0) (bytes_at other 0) (read_places p arrays) i
          → get_or (bytes_at one 0) i 0 ≡ get_or (bytes_at other 0) i 0
      by (inl out) = first.outside i out ∙ sym (second.outside i out)
      by (inr is) = is

  node_bytes : (n : ℕ) → bytes_at one n ≡ bytes_at other n
  node_bytes zero = ext_get_or 0 (bytes_at one 0) (bytes_at other 0) (size_at one other same_sizes 0) (λ i l. root_byte i)
  node_bytes (suc n) = first.others (suc n) (λ is. cc) ∙ sym (second.others (suc n) (λ is. cc))

  pub starts_are_one : one ≡ other
  starts_are_one = ext_get_or [] one other
      (sym (length-map one length) ∙ (ap length same_sizes ∙ length-map other length)) (λ n l. node_bytes n)
