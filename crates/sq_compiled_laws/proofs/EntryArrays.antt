-- The arrays of a file, made from the entry's parameters, their extents and their buffers.
use Rattle.std.proofs.Common.{◌≡◌, ℕ, zero, suc, ◌+◌, ◌*◌, ◌<◌, ◌≤◌, List, [], ◌∷◌, ◌++◌, map, length, get_or, slice_get, Some, refl, sym, ap, ◌∙◌, subst, arith, append_assoc}
use Rattle.std.specs.List.{Contains}
use Rattle.sq_num.specs.Elements.{width}
use Rattle.sq_text.specs.Names.{Bytes}
use Rattle.sq_ast.specs.declared.program.Param.{Param}
use Rattle.sq_ast.specs.Unplaced.{nowhere}
use Rattle.sq_ir.specs.declared.plan.Buffer.{Buffer}
use Rattle.sq_ir.specs.Plans.{of_buffer}
use Rattle.sq_plantext.specs.Grammar.{buffer_line}
use Rattle.sq_plantext.specs.declared.text.BufferLine.{BufferLine}
use Rattle.sq_plantext.specs.declared.text.ArrayLine.{ArrayLine}
use Rattle.sq_planfile.specs.declared.entry.EntryArray.{EntryArray}
use Rattle.sq_planfile.specs.File.{entry_arrays}
use Rattle.sq_planfile.specs.Sound.{product, AreExtents, AreArrays}
use Rattle.sq_planfile.specs.Written.{array_of, buffer_lines}
use Rattle.sq_compiled_laws.proofs.ParamNames.{NamesOnce}

-- their buffers are those that they are made with
pub buffers_back : (ps : List Param) (es : List (List ℕ)) (bs : List ℕ) → length es ≡ length ps → length bs ≡ length ps
    → map (λ (a : EntryArray). a.buffer) (entry_arrays ps es bs) ≡ bs
buffers_back [] es [] m n = refl
buffers_back [] es (b ∷ bs) m n = absurd (omega (arith, n))
buffers_back (p ∷ ps) [] bs m n = absurd (omega (arith, m))
buffers_back (p ∷ ps) (e ∷ es) [] m n = absurd (omega (arith, n))
buffers_back (p ∷ ps) (e ∷ es) (b ∷ bs) m n = ap (λ cs. b ∷ cs) (buffers_back ps es bs (omega (arith, m)) (omega (arith, n)))

-- ---- lines of buffers

abbrev pub line_at : (offset : ℕ) → Buffer → BufferLine
line_at offset x = buffer_line nowhere x.level offset x.size x.instance x.array

pub lines_at : (n : ℕ) (os : List ℕ) (bs : List Buffer) (i : ℕ) (x : Buffer) → slice_get bs i ≡ Some x
    → slice_get (buffer_lines n os bs) i ≡ Some (line_at (get_or os (n + i) 0) x)
lines_at n os [] i x h = absurd (cc h)
lines_at n os (y ∷ bs) zero x h =
    let is : y ≡ x = cc h in
    let at : n ≡ n + 0 = omega arith in
    ap (λ (z : Buffer). Some (line_at (get_or os n 0) z)) is ∙ ap (λ (k : ℕ). Some (line_at (get_or os k 0) x)) at
lines_at n os (y ∷ bs) (suc i) x h =
    let at : suc n + i ≡ n + suc i = omega arith in
    lines_at (suc n) os bs i x h ∙ ap (λ (k : ℕ). Some (line_at (get_or os k 0) x)) at

pub of_there : (bs : List Buffer) (f : Buffer → ℕ) (i : ℕ) (x : Buffer) → slice_get bs i ≡ Some x → of_buffer bs f i ≡ f x
of_there [] f i x h = absurd (cc h)
of_there (y ∷ bs) f zero x h = let is : y ≡ x = cc h in ap f is
of_there (y ∷ bs) f (suc i) x h = of_there bs f i x h

-- ---- buffers that are each once

abbrev pub BuffersOnce : (before : List ℕ) → List ℕ → Type 0
BuffersOnce before [] = Unit {0}
BuffersOnce before (b ∷ bs) = (¬ Contains before b) × BuffersOnce (before ++ b ∷ []) bs

in_front : (before bs : List ℕ) (k : ℕ) → k < length before → slice_get (before ++ bs) k ≡ Some (get_or before k 0)
in_front [] bs k lt = absurd (omega (arith, lt))
in_front (x ∷ before) bs zero lt = refl
in_front (x ∷ before) bs (suc k) lt = in_front before bs k (omega (arith, lt))

behind : (before : List ℕ) (b : ℕ) (bs : List ℕ) → slice_get (before ++ b ∷ bs) (length before) ≡ Some b
behind [] b bs = refl
behind (x ∷ before) b bs = behind before b bs

get_same : (xs : List ℕ) (k d e : ℕ) → k < length xs → get_or xs k d ≡ get_or xs k e
get_same [] k d e lt = absurd (omega (arith, lt))
get_same (x ∷ xs) zero d e lt = refl
get_same (x ∷ xs) (suc k) d e lt = get_same xs k d e (omega (arith, lt))

pub once : (before bs : List ℕ)
    → ((i j b : ℕ) → slice_get (before ++ bs) i ≡ Some b → slice_get (before ++ bs) j ≡ Some b → i ≡ j) → BuffersOnce before bs
once before [] h = tt
once before (b ∷ bs) h = (
  λ c.
      let is : slice_get (before ++ b ∷ bs) c.0 ≡ Some b =
      in_front before (b ∷ bs) c.0 c.1 ∙ ap (λ (x : ℕ). Some x) (get_same before c.0 0 b c.1 ∙ c.2) in
      let same = h c.0 (length before) b is (behind before b bs) in
      let less = c.1 in
      absurd (omega (arith, same, less)),
  once (before ++ b ∷ []) bs
      (subst (λ (l : List ℕ). (i j c : ℕ) → slice_get l i ≡ Some c → slice_get l j ≡ Some c → i ≡ j)
      (sym (append_assoc before (b ∷ []) bs)) h),
)

-- ---- lines of arrays

-- a parameter with these extents and this buffer
pub record IsFor (lines : List BufferLine) (p : Param) (e : List ℕ) (b : ℕ) : Type 0 where
  pub buffer : BufferLine
  pub there : slice_get lines b ≡ Some buffer
  pub root : buffer.level ≡ 0
  pub extents : AreExtents e
  pub room : width p.elem * product e ≤ buffer.size

abbrev pub AreFor : List BufferLine → List Param → List (List ℕ) → List ℕ → Type 0
AreFor lines [] es bs = Unit {0}
AreFor lines (p ∷ ps) [] bs = Unit {0}
AreFor lines (p ∷ ps) (e ∷ es) [] = Unit {0}
AreFor lines (p ∷ ps) (e ∷ es) (b ∷ bs) = IsFor lines p e b × AreFor lines ps es bs

pub are_for : (lines : List BufferLine) (ps : List Param) (es : List (List ℕ)) (bs : List ℕ)
    → ((i : ℕ) (p : Param) (e : List ℕ) (b : ℕ) → slice_get ps i ≡ Some p → slice_get es i ≡ Some e → slice_get bs i ≡ Some b → IsFor lines p e b)
    → AreFor lines ps es bs
are_for lines [] es bs h = tt
are_for lines (p ∷ ps) [] bs h = tt
are_for lines (p ∷ ps) (e ∷ es) [] h = tt
are_for lines (p ∷ ps) (e ∷ es) (b ∷ bs) h = (h 0 p e b refl refl refl, are_for lines ps es bs (λ i q f c x y z. h (suc i) q f c x y z))

map_both : {A B : Type 0} (f : A → B) (xs : List A) (x : A) → map f (xs ++ x ∷ []) ≡ map f xs ++ f x ∷ []
map_both f [] x = refl
map_both f (y ∷ xs) x = ap (λ l. f y ∷ l) (map_both f xs x)

abbrev names : List ArrayLine → List Bytes
names xs = map (λ (x : ArrayLine). x.name.name) xs

abbrev buffers : List ArrayLine → List ℕ
buffers xs = map (λ (x : ArrayLine). x.buffer) xs

pub arrays_are : (lines : List BufferLine) (before : List ArrayLine) (ps : List Param) (es : List (List ℕ)) (bs : List ℕ)
    → NamesOnce (names before) ps → BuffersOnce (buffers before) bs → AreFor lines ps es bs
    → AreArrays lines before (map array_of (entry_arrays ps es bs))
arrays_are lines before [] es bs named own h = tt
arrays_are lines before (p ∷ ps) [] bs named own h = tt
arrays_are lines before (p ∷ ps) (e ∷ es) [] named own h = tt
arrays_are lines before (p ∷ ps) (e ∷ es) (b ∷ bs) named own h =
    let a : ArrayLine = array_of (record { mode = p.mode; elem = p.elem; name = p.name; extents = e; buffer = b }) in (
      record {
        name = named.0;
        mine = own.0;
        buffer = h.0.buffer;
        there = h.0.there;
        root = h.0.root;
        extents = h.0.extents;
        room = h.0.room;
      },
      arrays_are lines (before ++ a ∷ []) ps es bs
          (subst (λ (l : List Bytes). NamesOnce l ps) (sym (map_both (λ (x : ArrayLine). x.name.name) before a)) named.1)
          (subst (λ (l : List ℕ). BuffersOnce l bs) (sym (map_both (λ (x : ArrayLine). x.buffer) before a)) own.1) h.1,
    )
