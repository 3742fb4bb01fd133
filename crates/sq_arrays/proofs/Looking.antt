-- What a read puts into the window.
use Rattle.std.proofs.Common.{◌≡◌, ℕ, ◌+◌, ◌-◌, ◌<◌, ◌≤◌, true, false, List, [], ◌++◌, length, take, drop, Option, Some, sym, ◌∙◌, ap, subst, arith, length-append, length-take}
use Rattle.std.proofs.lemmas.List.{take_all, take-append-le, take-take, drop-take, drop_all, take-append-drop}
use Rattle.std.proofs.lemmas.Bool.Decides.{nat_tests}
use Rattle.sq_port.specs.Ports.{Content, Reads}
use Rattle.sq_arrays.specs.Words.{within, is_over}
use Rattle.sq_arrays.specs.Window.{IsTold, IsThere}

some_same : {A : Type 0} (o : Option A) (x y : A) → o ≡ Some x → o ≡ Some y → x ≡ y
some_same o x y a b = cc

-- what is told is one
pub same_bytes : (c : Content) (told : Option Content) (name xs ys : List ℕ) → told ≡ Some c → c name ≡ Some xs → IsTold told name ys → xs ≡ ys
same_bytes c told name xs ys is there t =
    let e : t.content ≡ c = some_same told t.content c t.is is in
    some_same (c name) xs ys there (subst (λ (k : Content). k name ≡ Some ys) e t.there)

-- what was read, seen from what is told
pub reads_told : (told : Option Content) (name room : List ℕ) (at n : ℕ)
    → ((c : Content) → told ≡ Some c → (bytes : List ℕ) × (c name ≡ Some bytes) × Reads bytes at room n)
    → (bytes : List ℕ) → IsTold told name bytes → Reads bytes at room n
reads_told told name room at n reads bytes t =
    let r = reads t.content t.is in subst (λ (b : List ℕ). Reads b at room n) (same_bytes t.content told name r.0 bytes t.is r.1 t) r.2

pub within_length : (bytes : List ℕ) → length (within bytes) ≤ 268435456
unfolding within
within_length bytes = omega (arith, length-take 268435456 bytes)

pub within_short : (bytes : List ℕ) → length bytes ≤ 268435456 → within bytes ≡ bytes
unfolding within
within_short bytes short = take_all 268435456 bytes short

pub over_not : (bytes : List ℕ) → length bytes ≤ 268435456 → is_over bytes ≡ false
unfolding is_over
over_not bytes short = grind (arith, nat_tests)

pub over_yes : (bytes : List ℕ) → 268435456 < length bytes → is_over bytes ≡ true
unfolding is_over
over_yes bytes long = grind (arith, nat_tests)

-- a read that gave nothing: the file ends here
pub ends_here : (bytes room : List ℕ) (at n : ℕ) → at ≤ 268435456 → 0 < length room → n ≡ 0 → Reads bytes at room n → (drop at (within bytes) ≡ []) × (is_over bytes ≡ false)
ends_here bytes room at n inside some none reads =
    let short : length bytes ≤ at = reads.ends some none in
    (rw (within_short bytes (omega arith)) (drop_all at bytes short), over_not bytes (omega arith))

-- a byte past the limit
pub past_here : (bytes room : List ℕ) (at n : ℕ) → at ≡ 268435456 → 0 < n → Reads bytes at room n → (drop at (within bytes) ≡ []) × (is_over bytes ≡ true)
past_here bytes room at n here some reads =
    (drop_all at (within bytes) (omega (arith, within_length bytes)), over_yes bytes (omega (arith, reads.inside)))

split_at_limit : (limit at n : ℕ) (bytes : List ℕ) → at + n ≤ limit → n ≤ length bytes - at → drop at (take limit bytes) ≡ take n (drop at bytes) ++ drop n (drop at (take limit bytes))
split_at_limit limit at n bytes fits inside =
    let e : limit ≡ at + (limit - at) = omega arith in
    let t : drop at (take limit bytes) ≡ take (limit - at) (drop at bytes) = ap (λ (k : ℕ). drop at (take k bytes)) e ∙ drop-take at (limit - at) bytes in
    sym (take-append-drop n (drop at (take limit bytes))) ∙ ap (λ (l : List ℕ). l ++ drop n (drop at (take limit bytes))) (ap (take n) t ∙ take-take n (limit - at) (drop at bytes) (omega arith))

-- bytes within the limit
pub bytes_here : (bytes room : List ℕ) (at n : ℕ) → at + n ≤ 268435456 → Reads bytes at room n → (more : List ℕ) × (drop at (within bytes) ≡ take n room ++ more)
unfolding within
bytes_here bytes room at n fits reads =
    (drop n (drop at (take 268435456 bytes)), split_at_limit 268435456 at n bytes fits reads.inside ∙ ap (λ (l : List ℕ). l ++ drop n (drop at (take 268435456 bytes))) (sym reads.same))

front_read : (into tail : List ℕ) (n : ℕ) → n ≤ length into → take (n - 0) (drop 0 (into ++ tail)) ≡ take n into
front_read into tail n bound = let e : n - 0 ≡ n = omega arith in rw e (take-append-le n into tail bound)

-- what was read stands in the window
pub front_stands : (told now : Option Content) (name into tail : List ℕ) (at n : ℕ) → now ≡ told → n ≤ length into → at + n ≤ 268435456
    → ((c : Content) → told ≡ Some c → (bytes : List ℕ) × (c name ≡ Some bytes) × Reads bytes at into n)
    → (bytes : List ℕ) → IsTold now name bytes → (more : List ℕ) × (drop at (within bytes) ≡ take (n - 0) (drop 0 (into ++ tail)) ++ more)
front_stands told now name into tail at n same bound fits reads bytes t =
    let here = bytes_here bytes into at n fits (reads_told told name into at n reads bytes (subst (λ (k : Option Content). IsTold k name bytes) same t)) in
    (here.0, here.1 ∙ ap (λ (l : List ℕ). l ++ here.0) (sym (front_read into tail n bound)))

pub there_stands : (told now : Option Content) (name into : List ℕ) (at n : ℕ) → now ≡ told
    → ((c : Content) → told ≡ Some c → (bytes : List ℕ) × (c name ≡ Some bytes) × Reads bytes at into n) → IsThere now name
there_stands told now name into at n same reads = record { there = λ c is. let r = reads c (sym same ∙ is) in (r.0, r.1) }

-- a byte is left where one was read
pub some_left : (bytes room : List ℕ) (at n : ℕ) → at + n ≤ 268435456 → n ≤ length room → 0 < n → Reads bytes at room n → 0 < length (drop at (within bytes))
some_left bytes room at n fits bound some reads =
    let here = bytes_here bytes room at n fits reads in
    rw here.1 (omega (arith, length-append (take n room) here.0, length-take n room))

-- and where the window has one
pub some_held : (held text more : List ℕ) → text ≡ held ++ more → 0 < length held → 0 < length text
some_held held text more is some = rw is (omega (arith, length-append held more))
