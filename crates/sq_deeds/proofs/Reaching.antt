-- Deeds that touch no byte of one another, one after another.
use Rattle.std.proofs.Common.{◌≡◌, ◌⊎◌, inl, inr, ℕ, zero, suc, ◌+◌, ◌-◌, ◌<◌, ◌≤◌, Bool, true, false, List, [], ◌∷◌, ◌++◌, length, take, drop, get_or, Option, Some, None, ℤ, refl, sym, subst, ◌∙◌, ap, arith, length-take, if◌then◌else◌}
use Rattle.std.specs.List.{All}
use Rattle.std.proofs.lemmas.Bool.{cases_lt}
use Rattle.std.proofs.lemmas.List.{ext_get_or, get_or_append_left, get_or-append_right}
use Rattle.std.proofs.lemmas.List.Elements.{All-nil, All-cons, All-head, All-tail}
use Rattle.std.proofs.Math.Seq.{take-length}
use Rattle.sq_num.specs.declared.Elem.{Elem}
use Rattle.sq_num.specs.Elements.{width, value, cell}
use Rattle.sq_num.proofs.Cutting.{length-cell}
use Rattle.sq_leaf.specs.Numbers.{is_zero}
use Rattle.sq_leaf.specs.Source.{assigned}
use Rattle.sq_leaf.specs.Spots.{load, put_at}
use Rattle.sq_leaf.proofs.Bytes.{put_at-length, byte-apart}
use Rattle.sq_deeds.specs.declared.deeds.Numbers.{Numbers}
use Rattle.sq_deeds.specs.declared.deeds.Value.{Value}
use Rattle.sq_deeds.specs.declared.deeds.Value.TheVariants.{Known, Carried}
use Rattle.sq_deeds.specs.declared.deeds.Put.{Put}
use Rattle.sq_deeds.specs.declared.deeds.Deed.{Deed}
use Rattle.sq_deeds.specs.declared.deeds.Deed.TheVariants.{Always, Choice}
use Rattle.sq_deeds.specs.Deeds.{number_at, byte_at, along_links, value_at, put_at_turn, put_or_not, done, all_done, turns_done, HasColumn, ValueFits, PutFits, MayFit, DeedFits}
use Rattle.sq_deeds.specs.Reaches.{ValueLies, PutLies, MayLie, DeedLies, IsApart, AreApart, IsAlone, ArePutsApart}
use Rattle.sq_deeds.proofs.Rising.{part_same}

-- it reads and writes these bytes alone
pub record Within (low high size : ℕ) (f : List ℕ → List ℕ) : Type 0 where
  pub long : (c : List ℕ) → length c ≡ size → length (f c) ≡ size
  pub outside : (c : List ℕ) → length c ≡ size → (k : ℕ) → (k < low) ⊎ (high ≤ k) → get_or (f c) k 0 ≡ get_or c k 0
  pub inside : (c d : List ℕ) → length c ≡ size → length d ≡ size → ((k : ℕ) → low ≤ k → k < high → get_or c k 0 ≡ get_or d k 0) → (k : ℕ) → low ≤ k → k < high → get_or (f c) k 0 ≡ get_or (f d) k 0

data Side (low high k : ℕ) : Type 0 where
  Inside : low ≤ k → k < high → Side low high k
  Outside : (k < low) ⊎ (high ≤ k) → Side low high k

side : (low high k : ℕ) → Side low high k
side low high k = go (cases_lt k low) (cases_lt k high)
  where
    go : (k < low) ⊎ (low ≤ k) → (k < high) ⊎ (high ≤ k) → Side low high k
    go (inl p) q = Outside (inl p)
    go (inr p) (inl q) = Inside p q
    go (inr p) (inr q) = Outside (inr q)

beyond : (low high from to k : ℕ) → (high ≤ from) ⊎ (to ≤ low) → low ≤ k → k < high → (k < from) ⊎ (to ≤ k)
beyond low high from to k (inl a) p q = inl (omega (arith, a, p, q))
beyond low high from to k (inr a) p q = inr (omega (arith, a, p, q))

turned : (low high from to : ℕ) → (high ≤ from) ⊎ (to ≤ low) → (to ≤ low) ⊎ (high ≤ from)
turned low high from to (inl a) = inr a
turned low high from to (inr a) = inl a

pub commute : (low high from to size : ℕ) (f g : List ℕ → List ℕ) → Within low high size f → Within from to size g → (high ≤ from) ⊎ (to ≤ low) → (c : List ℕ) → length c ≡ size → f (g c) ≡ g (f c)
commute low high from to size f g hf hg apart c long =
    ext_get_or 0 (f (g c)) (g (f c)) (hf.long (g c) (hg.long c long) ∙ sym (hg.long (f c) (hf.long c long))) (λ k below. go k (side low high k) (side from to k))
  where
    go : (k : ℕ) → Side low high k → Side from to k → get_or (f (g c)) k 0 ≡ get_or (g (f c)) k 0
    go k (Inside p q) s =
        hf.inside (g c) c (hg.long c long) long (λ i from_low below. hg.outside c long i (beyond low high from to i apart from_low below)) k p q
        ∙ sym (hg.outside (f c) (hf.long c long) k (beyond low high from to k apart p q))
    go k (Outside o) (Inside p q) =
        hf.outside (g c) (hg.long c long) k o
        ∙ sym (hg.inside (f c) c (hf.long c long) long (λ i from_low below. hf.outside c long i (beyond from to low high i (turned low high from to apart) from_low below)) k p q)
    go k (Outside o) (Outside u) =
        hf.outside (g c) (hg.long c long) k o ∙ (hg.outside c long k u ∙ (sym (hf.outside c long k o) ∙ sym (hg.outside (f c) (hf.long c long) k u)))

within_same : (low high size : ℕ) → Within low high size (λ c. c)
within_same low high size = record { long = λ c e. e; outside = λ c e k o. refl; inside = λ c d p q h k from below. h k from below }

within_both : (low high size : ℕ) (f g : List ℕ → List ℕ) → Within low high size f → Within low high size g → Within low high size (λ c. g (f c))
within_both low high size f g hf hg = record {
  long = λ c e. hg.long (f c) (hf.long c e);
  outside = λ c e k o. hg.outside (f c) (hf.long c e) k o ∙ hf.outside c e k o;
  inside = λ c d p q h. hg.inside (f c) (f d) (hf.long c p) (hf.long d q) (hf.inside c d p q h);
}

-- ---- a put

piece_byte : (k at : ℕ) (piece c : List ℕ) → at + length piece ≤ length c → at ≤ k → k < at + length piece → get_or (put_at at piece c) k 0 ≡ get_or piece (k - at) 0
piece_byte k at piece c fits from below =
    get_or-append_right (take at c) (piece ++ drop (at + length piece) c) at k 0 (omega (arith, length-take at c, fits)) from
    ∙ get_or_append_left piece (drop (at + length piece) c) 0 (k - at) (omega (arith, from, below))

same_load : (e : Elem) (at low high : ℕ) (c d : List ℕ) → at + width e ≤ length c → at + width e ≤ length d → low ≤ at → at + width e ≤ high
    → ((k : ℕ) → low ≤ k → k < high → get_or c k 0 ≡ get_or d k 0) → load (record { elem = e; at = at }) c ≡ load (record { elem = e; at = at }) d
same_load e at low high c d hc hd from to h = ap (value e) (part_same (width e) at d c hd hc (λ k first last. h k (omega (arith, first, from)) (omega (arith, last, to))))

same_value : (columns : List ℤ) (v : Value) (n most size low high j : ℕ) (c d : List ℕ) → ValueFits n most size v → ValueLies n v low high → j < n → length c ≡ size → length d ≡ size
    → ((k : ℕ) → low ≤ k → k < high → get_or c k 0 ≡ get_or d k 0) → value_at columns v j c ≡ value_at columns v j d
same_value columns (Known x) n most size low high j c d fits lies below p q h = refl
same_value columns (Carried r) n most size low high j c d fits lies below p q h =
    let room : byte_at r.read j + width r.elem ≤ size = fits.0.room j below in
    ap (along_links columns r.links.items j) (same_load r.elem (byte_at r.read j) low high c d (omega (arith, room, p)) (omega (arith, room, q)) (lies.begins j below) (lies.ends j below) h)

pub put_within : (columns : List ℤ) (p : Put) (n most size low high j : ℕ) → PutFits n most size p → PutLies n p low high → j < n → Within low high size (put_at_turn columns p j)
put_within columns p n most size low high j fits lies below = record {
  long = λ c e. put_at-length at (cell p.elem (put c)) c (inner c e) ∙ e;
  outside = λ c e k o. byte-apart k at (cell p.elem (put c)) c (inner c e) (apart c k o);
  inside = λ c d hc hd h k from to. go c d hc hd h k from to (same c d hc hd h) (side at (at + width p.elem) k);
}
  where
    at : ℕ
    at = byte_at p.to j

    put : List ℕ → ℤ
    put c = assigned p.op (load (record { elem = p.elem; at = byte_at p.to j }) c) (value_at columns p.value j c)

    room : byte_at p.to j + width p.elem ≤ size
    room = fits.to.room j below

    inner : (c : List ℕ) → length c ≡ size → byte_at p.to j + length (cell p.elem (put c)) ≤ length c
    inner c e = omega (arith, length-cell p.elem (put c), room, e)

    apart : (c : List ℕ) (k : ℕ) → (k < low) ⊎ (high ≤ k) → (k < byte_at p.to j) ⊎ (byte_at p.to j + length (cell p.elem (put c)) ≤ k)
    apart c k (inl o) = inl (omega (arith, o, lies.to.begins j below))
    apart c k (inr o) = inr (omega (arith, o, lies.to.ends j below, length-cell p.elem (put c)))

    same : (c d : List ℕ) → length c ≡ size → length d ≡ size → ((k : ℕ) → low ≤ k → k < high → get_or c k 0 ≡ get_or d k 0) → put c ≡ put d
    same c d hc hd h =
        (λ i. assigned p.op (same_load p.elem (byte_at p.to j) low high c d (omega (arith, room, hc)) (omega (arith, room, hd)) (lies.to.begins j below) (lies.to.ends j below) h i)
        (same_value columns p.value n most size low high j c d fits.value lies.value below hc hd h i))

    go : (c d : List ℕ) → length c ≡ size → length d ≡ size → ((k : ℕ) → low ≤ k → k < high → get_or c k 0 ≡ get_or d k 0) → (k : ℕ) → low ≤ k → k < high → put c ≡ put d
        → Side (byte_at p.to j) (byte_at p.to j + width p.elem) k → get_or (put_at_turn columns p j c) k 0 ≡ get_or (put_at_turn columns p j d) k 0
    go c d hc hd h k from to e (Inside a b) =
        piece_byte k (byte_at p.to j) (cell p.elem (put c)) c (inner c hc) a (omega (arith, b, length-cell p.elem (put c)))
        ∙ (ap (λ (v : ℤ). get_or (cell p.elem v) (k - byte_at p.to j) 0) e
        ∙ sym (piece_byte k (byte_at p.to j) (cell p.elem (put d)) d (inner d hd) a (omega (arith, b, length-cell p.elem (put d)))))
    go c d hc hd h k from to e (Outside o) =
        byte-apart k (byte_at p.to j) (cell p.elem (put c)) c (inner c hc) (wide c o)
        ∙ (h k from to ∙ sym (byte-apart k (byte_at p.to j) (cell p.elem (put d)) d (inner d hd) (wide d o)))
      where
        wide : (b : List ℕ) → (k < byte_at p.to j) ⊎ (byte_at p.to j + width p.elem ≤ k) → (k < byte_at p.to j) ⊎ (byte_at p.to j + length (cell p.elem (put b)) ≤ k)
        wide b (inl x) = inl x
        wide b (inr x) = inr (omega (arith, x, length-cell p.elem (put b)))

may_within : (columns : List ℤ) (o : Option Put) (n most size low high j : ℕ) → MayFit n most size o → MayLie n o low high → j < n → Within low high size (put_or_not columns o j)
may_within columns (Some p) n most size low high j fits lies below = put_within columns p n most size low high j fits lies below
may_within columns None n most size low high j fits lies below = within_same low high size

deed_within : (columns : List ℤ) (d : Deed) (n most size low high j : ℕ) → DeedFits n most size d → DeedLies n d low high → j < n → Within low high size (done columns d j)
deed_within columns (Always p) n most size low high j fits lies below = put_within columns p n most size low high j fits lies below
deed_within columns (Choice test taken other) n most size low high j fits lies below = go (is_zero (number_at columns test j))
  where
    go : (b : Bool) → Within low high size (λ c. if b then put_or_not columns other j c else put_or_not columns taken j c)
    go true = may_within columns other n most size low high j fits.1.1 lies.1 below
    go false = may_within columns taken n most size low high j fits.1.0 lies.0 below

pub turns_within : (columns : List ℤ) (d : Deed) (n most size low high : ℕ) → DeedFits n most size d → DeedLies n d low high → (m j : ℕ) → j + m ≤ n → Within low high size (turns_done columns (d ∷ []) m j)
turns_within columns d n most size low high fits lies zero j within = within_same low high size
turns_within columns d n most size low high fits lies (suc m) j within =
    within_both low high size (done columns d j) (turns_done columns (d ∷ []) m (suc j)) (deed_within columns d n most size low high j fits lies (omega (arith, within)))
    (turns_within columns d n most size low high fits lies m (suc j) (omega (arith, within)))

-- ---- one deed before the others

past_all : (columns : List ℤ) (ds : List Deed) (n most size low high j : ℕ) (f : List ℕ → List ℕ) → Within low high size f → All (DeedFits n most size) ds → AreApart n low high ds → j < n
    → (c : List ℕ) → length c ≡ size → f (all_done columns ds j c) ≡ all_done columns ds j (f c)
past_all columns [] n most size low high j f hf fits apart below c long = refl
past_all columns (d ∷ ds) n most size low high j f hf fits apart below c long =
    let here : IsApart n low high d = apart.0 in
    let inner : Within here.from here.to size (done columns d j) = deed_within columns d n most size here.from here.to j (All-head (DeedFits n most size) d ds fits) here.lies below in
    past_all columns ds n most size low high j f hf (All-tail (DeedFits n most size) d ds fits) apart.1 below (done columns d j c) (inner.long c long)
    ∙ ap (all_done columns ds j) (commute low high here.from here.to size f (done columns d j) hf inner here.apart c long)

all_long : (columns : List ℤ) (ds : List Deed) (n most size low high j : ℕ) → All (DeedFits n most size) ds → AreApart n low high ds → j < n → (c : List ℕ) → length c ≡ size → length (all_done columns ds j c) ≡ size
all_long columns [] n most size low high j fits apart below c long = long
all_long columns (d ∷ ds) n most size low high j fits apart below c long =
    let here : IsApart n low high d = apart.0 in
    let inner : Within here.from here.to size (done columns d j) = deed_within columns d n most size here.from here.to j (All-head (DeedFits n most size) d ds fits) here.lies below in
    all_long columns ds n most size low high j (All-tail (DeedFits n most size) d ds fits) apart.1 below (done columns d j c) (inner.long c long)

split_from : (columns : List ℤ) (d : Deed) (ds : List Deed) (n most size low high : ℕ) → DeedFits n most size d → DeedLies n d low high → All (DeedFits n most size) ds → AreApart n low high ds
    → (m j : ℕ) → j + m ≤ n → (c : List ℕ) → length c ≡ size → turns_done columns ds m j (turns_done columns (d ∷ []) m j c) ≡ turns_done columns (d ∷ ds) m j c
split_from columns d ds n most size low high fits lies rest apart zero j within c long = refl
split_from columns d ds n most size low high fits lies rest apart (suc m) j within c long =
    let below : j < n = omega (arith, within) in
    let first : length (done columns d j c) ≡ size = (deed_within columns d n most size low high j fits lies below).long c long in
    ap (turns_done columns ds m (suc j))
    (sym (past_all columns ds n most size low high j (turns_done columns (d ∷ []) m (suc j)) (turns_within columns d n most size low high fits lies m (suc j) (omega (arith, within))) rest apart below (done columns d j c) first))
    ∙ split_from columns d ds n most size low high fits lies rest apart m (suc j) (omega (arith, within)) (all_done columns ds j (done columns d j c))
    (all_long columns ds n most size low high j rest apart below (done columns d j c) first)

-- a deed that touches no byte of the others may be done at all turns before them
pub first_alone : (columns : List ℤ) (d : Deed) (ds : List Deed) (n most low high : ℕ) (c : List ℕ) → DeedFits n most (length c) d → DeedLies n d low high → All (DeedFits n most (length c)) ds → AreApart n low high ds
    → turns_done columns ds n 0 (turns_done columns (d ∷ []) n 0 c) ≡ turns_done columns (d ∷ ds) n 0 c
first_alone columns d ds n most low high c fits lies rest apart = split_from columns d ds n most (length c) low high fits lies rest apart n 0 (omega arith) c refl

pub alone_first : (columns : List ℤ) (d : Deed) (rest whole : List Deed) (n most : ℕ) (b c : List ℕ) → d ∷ rest ≡ whole → All (DeedFits n most (length b)) whole → IsAlone n d rest
    → c ≡ turns_done columns (d ∷ []) n 0 b → turns_done columns rest n 0 c ≡ turns_done columns whole n 0 b
alone_first columns d rest whole n most b c is fits alone first =
    let all : All (DeedFits n most (length b)) (d ∷ rest) = subst (λ (ds : List Deed). All (DeedFits n most (length b)) ds) (sym is) fits in
    ap (turns_done columns rest n 0) first
    ∙ (first_alone columns d rest n most alone.low alone.high b (All-head (DeedFits n most (length b)) d rest all) alone.lies (All-tail (DeedFits n most (length b)) d rest all) alone.apart
    ∙ ap (λ (ds : List Deed). turns_done columns ds n 0 b) is)

-- the first of a list and the rest of it
pub front_rest : (x : Deed) (ds : List Deed) → 0 < length ds → x ≡ get_or ds 0 x → x ∷ take (length ds - 1) (drop 1 ds) ≡ ds
front_rest x [] some is = absurd (omega (arith, some))
front_rest x (d ∷ ds) some is =
    let less : length (d ∷ ds) - 1 ≡ length ds = omega arith in
    ap (λ (n : ℕ). x ∷ take n ds) less ∙ (ap (λ (l : List Deed). x ∷ l) (take-length ds) ∙ ap (λ (y : Deed). y ∷ ds) is)

-- ---- one way after the other

both_ways : (columns : List ℤ) (test : Numbers) (p q : Put) (n j : ℕ) (c : List ℕ)
    → turns_done columns (Choice test (Some p) None ∷ Choice test None (Some q) ∷ []) n j c ≡ turns_done columns (Choice test (Some p) (Some q) ∷ []) n j c
both_ways columns test p q zero j c = refl
both_ways columns test p q (suc n) j c =
    ap (turns_done columns (Choice test (Some p) None ∷ Choice test None (Some q) ∷ []) n (suc j)) (go (is_zero (number_at columns test j)))
    ∙ both_ways columns test p q n (suc j) (done columns (Choice test (Some p) (Some q)) j c)
  where
    go : (b : Bool) → (if b then put_at_turn columns q j (if b then c else put_at_turn columns p j c) else (if b then c else put_at_turn columns p j c)) ≡ (if b then put_at_turn columns q j c else put_at_turn columns p j c)
    go true = refl
    go false = refl

pub ways_apart : (columns : List ℤ) (test : Numbers) (p q : Put) (n : ℕ) (b c : List ℕ) → HasColumn (length columns) test → PutFits n (length columns) (length b) p → PutFits n (length columns) (length b) q
    → ArePutsApart n p q → c ≡ turns_done columns (Choice test (Some p) None ∷ []) n 0 b
    → turns_done columns (Choice test None (Some q) ∷ []) n 0 c ≡ turns_done columns (Choice test (Some p) (Some q) ∷ []) n 0 b
ways_apart columns test p q n b c column hp hq h first =
    ap (turns_done columns (Choice test None (Some q) ∷ []) n 0) first
    ∙ (first_alone columns (Choice test (Some p) None) (Choice test None (Some q) ∷ []) n (length columns) h.low h.high b (column, (hp, tt)) (h.first, tt)
    (All-cons (DeedFits n (length columns) (length b)) (Choice test None (Some q)) [] (column, (tt, hq)) (All-nil (DeedFits n (length columns) (length b))))
    (record { from = h.from; to = h.to; lies = (tt, h.second); apart = h.apart }, tt)
    ∙ both_ways columns test p q n 0 b)
