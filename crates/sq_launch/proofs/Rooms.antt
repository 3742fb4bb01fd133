-- The arrays of a plan file that is sound, in the root of a good plan.
use Rattle.std.proofs.Common.{◌≡◌, ◌≢◌, ℕ, zero, suc, ◌+◌, ◌*◌, ◌^◌, ◌<◌, ◌≤◌, ◌⊎◌, inl, inr, List, [], ◌∷◌, ◌++◌, append_assoc, map, slice_get, Option, Some, option_map, refl, sym, ◌∙◌, ap, subst, arith}
use Rattle.std.specs.List.{All, Contains}
use Rattle.std.specs.Option.{option_map_or}
use Rattle.std.proofs.lemmas.List.Elements.{All-nil, All-cons, All-head, All-tail}
use Rattle.std.proofs.lemmas.List.{append-nil}
use Rattle.std.proofs.lemmas.Option.{slice_get-map}
use Rattle.sq_num.specs.declared.Elem.{Elem}
use Rattle.sq_num.specs.declared.Elem.TheVariants.{Byte, Int, Long}
use Rattle.sq_num.specs.Elements.{width}
use Rattle.sq_rect.specs.Extents as rect
use Rattle.sq_ir.specs.Scopes.{Scope}
use Rattle.sq_ir.specs.Plans.{setting_of, node_at, HaveRoom as HaveRoomIn, IsLive, IsGood}
use Rattle.sq_ir.specs.declared.plan.Plan.{Plan}
use Rattle.sq_ir.specs.declared.plan.Buffer.{Buffer}
use Rattle.sq_tree.specs.Bank.{leaves_in}
use Rattle.sq_root.specs.declared.place.Place.{Place}
use Rattle.sq_root.specs.Places.{IsWithin, IsClear, AreApart}
use Rattle.sq_plantext.specs.declared.text.ArrayLine.{ArrayLine}
use Rattle.sq_plantext.specs.declared.text.BufferLine.{BufferLine}
use Rattle.sq_plantext.specs.declared.text.PlanText.{PlanText}
use Rattle.sq_planfile.specs.declared.entry.EntryArray.{EntryArray}
use Rattle.sq_planfile.specs.Files.{array_of, buffer_of, plan_of}
use Rattle.sq_planfile.specs.Sound.{product, IsArrayLine, AreArrays, IsSound}
use Rattle.sq_launch.specs.Arrays.{AreSmall, place_of, places_of}
use Rattle.sq_launch.specs.Starts.{SoundFilesHaveRoom}

-- ---- sizes

products : (ns : List ℕ) → product ns ≡ rect.product ns
products [] = refl
products (n ∷ ns) = ap (λ (k : ℕ). n * k) (products ns)

some_elements : (ns : List ℕ) → All (λ n. (1 ≤ n) × (n ≤ 2 ^ 24)) ns → 1 ≤ rect.product ns
some_elements [] each = omega arith
some_elements (n ∷ ns) each =
    let first = All-head (λ n. (1 ≤ n) × (n ≤ 2 ^ 24)) n ns each in
    let rest : 1 ≤ rect.product ns = some_elements ns (All-tail (λ n. (1 ≤ n) × (n ≤ 2 ^ 24)) n ns each) in
    positive n (rect.product ns) first.0 rest
  where
    positive : (a b : ℕ) → 1 ≤ a → 1 ≤ b → 1 ≤ a * b
    positive zero b x y = absurd (omega (arith, x))
    positive (suc a) b x y = omega (arith, y)

some_bytes : (e : Elem) (n : ℕ) → 1 ≤ n → 1 ≤ n * width e
some_bytes Byte n some = omega (arith, some)
some_bytes Int n some = omega (arith, some)
some_bytes Long n some = omega (arith, some)

turned : (e : Elem) (n m : ℕ) → m ≡ n → width e * m ≡ n * width e
turned Byte n m same = omega (arith, same)
turned Int n m same = omega (arith, same)
turned Long n m same = omega (arith, same)

module _ (x : PlanText) (sound : IsSound x) (good : IsGood (leaves_in (plan_of x)) (plan_of x)) where
  abbrev p : Plan
  p = plan_of x

  abbrev entry : List Scope
  entry = record { node = 0; buffers = map (λ a. a.buffer) x.arrays } ∷ []

  room : HaveRoomIn (setting_of p) entry
  room = good.entry

  live : (b : ℕ) → Contains (map (λ (a : ArrayLine). a.buffer) x.arrays) b → IsLive entry 0 b
  live b there = record {
    scope = record { node = 0; buffers = map (λ a. a.buffer) x.arrays };
    open_ = (0, omega arith, refl);
    at = refl;
    names = there;
  }

  -- an array of the file has some bytes, which are of its buffer
  pub record IsPlaced (a : ArrayLine) : Type 0 where
    pub there : Contains (map (λ (a : ArrayLine). a.buffer) x.arrays) a.buffer
    pub small : rect.product a.extents ≤ 2 ^ 26
    pub some : 1 ≤ (place_of p (array_of a)).size
    pub room : (place_of p (array_of a)).size ≤ (setting_of p).size a.buffer

  size_is : (b : ℕ) (line : BufferLine) → slice_get x.buffers b ≡ Some line → (setting_of p).size b ≡ line.size
  size_is b line there =
      ap (λ (o : Option Buffer). option_map_or (λ (b : Buffer). b.size) o 0)
      (slice_get-map buffer_of x.buffers b ∙ ap (option_map buffer_of) there)

  placed : (before : List ArrayLine) (a : ArrayLine) → IsArrayLine x.buffers before a
      → Contains (map (λ (a : ArrayLine). a.buffer) x.arrays) a.buffer → IsPlaced a
  placed before a is there =
      let few : product a.extents ≤ 2 ^ 26 = is.extents.elements in
      let same : product a.extents ≡ rect.product a.extents = products a.extents in
      record {
        there = there;
        small = omega (arith, few, same);
        some = some_bytes a.elem (rect.product a.extents) (some_elements a.extents is.extents.each);
        room = let all : width a.elem * product a.extents ≡ rect.product a.extents * width a.elem = turned a.elem
            (rect.product a.extents) (product a.extents) same in
            let long : (setting_of p).size a.buffer ≡ is.buffer.size = size_is a.buffer is.buffer is.there in
            let fits : width a.elem * product a.extents ≤ is.buffer.size = is.room in
            omega (arith, all, long, fits);
      }

  -- two of different buffers end before one another
  order : (a b : ℕ) → (a ≤ b) ⊎ (b < a)
  order zero b = inl (omega arith)
  order (suc a) zero = inr (omega arith)
  order (suc a) (suc b) = up (order a b)
    where
      up : (a ≤ b) ⊎ (b < a) → (suc a ≤ suc b) ⊎ (suc b < suc a)
      up (inl h) = inl (omega (arith, h))
      up (inr h) = inr (omega (arith, h))

  module _ (a b : ArrayLine) (one : IsPlaced a) (other : IsPlaced b) (differ : a.buffer ≢ b.buffer) where
    abbrev q : Place
    q = place_of p (array_of a)

    abbrev r : Place
    r = place_of p (array_of b)

    shared : (k : ℕ) → q.at ≤ k → k < q.at + q.size → r.at ≤ k → k < r.at + r.size → ⊥
    shared k qa qb ra rb = room.apart 0 a.buffer b.buffer k (live a.buffer one.there) (live b.buffer other.there) differ
        (record { from = qa; below = let l = one.room in omega (arith, qb, l) })
        (record { from = ra; below = let l = other.room in omega (arith, rb, l) })

    met_by : (q.at ≤ r.at) ⊎ (r.at < q.at) → r.at < q.at + q.size → q.at < r.at + r.size → ⊥
    met_by (inl h) low high = let s = other.some in shared r.at h low (omega arith) (omega (arith, s))
    met_by (inr h) low high = let s = one.some in shared q.at (omega arith) (omega (arith, s)) (omega (arith, h)) high

    clear_by : (q.at + q.size ≤ r.at) ⊎ (r.at < q.at + q.size) → (r.at + r.size ≤ q.at) ⊎ (q.at < r.at + r.size)
        → IsClear q r
    clear_by (inl h) other_way = inl h
    clear_by (inr h) (inl l) = inr l
    clear_by (inr h) (inr l) = absurd (met_by (order q.at r.at) h l)

    clear : IsClear (place_of p (array_of a)) (place_of p (array_of b))
    clear = clear_by (order (q.at + q.size) r.at) (order (r.at + r.size) q.at)

  abbrev places : List ArrayLine → List Place
  places arrays = places_of p (map array_of arrays)

  abbrev buffers : List ArrayLine → List ℕ
  buffers arrays = map (λ (a : ArrayLine). a.buffer) arrays

  -- each of these, where those stand before them
  abbrev Later : List ArrayLine → List ArrayLine → Type 0
  Later before [] = Unit {0}
  Later before (a ∷ arrays) = ((¬ Contains (buffers before) a.buffer) × IsPlaced a) × Later (before ++ a ∷ []) arrays

  later : (before arrays : List ArrayLine) → ((b : ℕ) → Contains (buffers arrays) b → Contains (buffers x.arrays) b)
      → AreArrays x.buffers before arrays → Later before arrays
  later before [] own all = tt
  later before (a ∷ arrays) own all = (
    (all.0.mine, placed before a all.0 (own a.buffer (0, omega arith, refl))),
    later (before ++ a ∷ []) arrays (λ b c. own b (suc c.0, (let l = c.1 in omega (arith, l)), c.2)) all.1,
  )

  all_later : Later [] x.arrays
  all_later = later [] x.arrays (λ b c. c) sound.arrays

  small_from : (before arrays : List ArrayLine) → Later before arrays → AreSmall (map array_of arrays)
  small_from before [] all = All-nil (λ (a : EntryArray). rect.product a.extents ≤ 2 ^ 26)
  small_from before (a ∷ arrays) all = All-cons (λ (a : EntryArray). rect.product a.extents ≤ 2 ^ 26) (array_of a)
      (map array_of arrays) all.0.1.small (small_from (before ++ a ∷ []) arrays all.1)

  within_from : (before arrays : List ArrayLine) → Later before arrays
      → All (IsWithin (node_at p.nodes 0).capacity) (places arrays)
  within_from before [] all = All-nil (IsWithin (node_at p.nodes 0).capacity)
  within_from before (a ∷ arrays) all = All-cons (IsWithin (node_at p.nodes 0).capacity) (place_of p (array_of a))
      (places arrays)
      (let below = room.below 0 a.buffer (live a.buffer all.0.1.there) in
      let fits = all.0.1.room in omega (arith, below, fits))
      (within_from (before ++ a ∷ []) arrays all.1)

  -- a stands before the others
  contained : (before : List ArrayLine) (a : ArrayLine) (rest : List ArrayLine)
      → Contains (buffers ((before ++ a ∷ []) ++ rest)) a.buffer
  contained [] a rest = (0, omega arith, refl)
  contained (b ∷ before) a rest = let c = contained before a rest in (suc c.0, (let l = c.1 in omega (arith, l)), c.2)

  clear_of : (a : ArrayLine) → IsPlaced a → (before middle arrays : List ArrayLine)
      → Later ((before ++ a ∷ []) ++ middle) arrays → All (IsClear (place_of p (array_of a))) (places arrays)
  clear_of a one before middle [] all = All-nil (IsClear (place_of p (array_of a)))
  clear_of a one before middle (b ∷ arrays) all = All-cons (IsClear (place_of p (array_of a))) (place_of p (array_of b))
      (places arrays)
      (clear a b one all.0.1 (λ same. all.0.0 (subst (λ (k : ℕ). Contains (buffers ((before ++ a ∷ []) ++ middle)) k)
      same (contained before a middle))))
      (clear_of a one before (middle ++ b ∷ []) arrays
      (subst (λ (l : List ArrayLine). Later l arrays) (append_assoc (before ++ a ∷ []) middle (b ∷ [])) all.1))

  apart_from : (before arrays : List ArrayLine) → Later before arrays → AreApart (places arrays)
  apart_from before [] all = tt
  apart_from before (a ∷ arrays) all = (
    clear_of a all.0.1 before [] arrays
        (subst (λ (l : List ArrayLine). Later l arrays) (sym (append-nil (before ++ a ∷ []))) all.1),
    apart_from (before ++ a ∷ []) arrays all.1,
  )

pub sound_files_have_room : SoundFilesHaveRoom
sound_files_have_room x sound good = record {
  small = small_from x sound good [] x.arrays (all_later x sound good);
  fit = record {
    within = within_from x sound good [] x.arrays (all_later x sound good);
    apart = apart_from x sound good [] x.arrays (all_later x sound good);
  };
}
