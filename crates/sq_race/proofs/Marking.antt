-- What is read and what is written are what is touched.
use Rattle.std.proofs.Common.{◌≡◌, refl, sym, ◌∙◌, ap, subst, Bool, true, false, ◌||◌, List, ◌++◌, if◌then◌else◌}
use Rattle.std.proofs.lemmas.List.Folds.{list_any-append}
use Rattle.sq_race.specs.Blocks.{Cell}
use Rattle.sq_race.specs.Cells.{has, meets}
use Rattle.sq_race.specs.Layers.{has_any, meets_any, Joins}
use Rattle.sq_race.specs.Marks.{touched, Marked}
use Rattle.sq_race.specs.declared.block.Block.{Block}
use Rattle.sq_race.specs.declared.layers.Layer.{Layer}
use Rattle.sq_race.specs.declared.marks.Marks.{Marks}

meets_touched : (m : Marks) (b : Block) → (meets_any m.read b || meets_any m.written b) ≡ meets_any (touched m) b
unfolding touched
meets_touched m b = sym (list_any-append (λ l. meets l.cells b) m.read m.written)

by_first : (r s t : Bool) → (r || s) ≡ t → r ≡ true → r ≡ t
by_first true s t is h = is
by_first false s t is h = absurd (cc)

by_second : (r s t : Bool) → (r || s) ≡ t → r ≡ false → s ≡ t
by_second true s t is h = absurd (cc)
by_second false s t is h = is

-- what is asked of an access that writes, or doesn't
abbrev asked : (writes : Bool) → Marks → Block → Bool
asked writes m b = meets_any (if writes then touched m else m.written) b

pub met_read : (m : Marks) (b : Block) (writes r : Bool) → writes ≡ true → r ≡ meets_any m.read b → r ≡ true → r ≡ asked writes m b
met_read m b writes r w is h = subst (λ x. r ≡ asked x m b) (sym w) (by_first r (meets_any m.written b) (meets_any (touched m) b) (ap (λ x. x || meets_any m.written b) is ∙ meets_touched m b) h)

pub met_written : (m : Marks) (b : Block) (writes r s : Bool) → writes ≡ true → r ≡ meets_any m.read b → r ≡ false → s ≡ meets_any m.written b → s ≡ asked writes m b
met_written m b writes r s w is h last =
    subst (λ x. s ≡ asked x m b) (sym w) (last ∙ by_second r (meets_any m.written b) (meets_any (touched m) b) (ap (λ x. x || meets_any m.written b) is ∙ meets_touched m b) h)

has_both : (xs ys : List Layer) (c : Cell) → has_any (xs ++ ys) c ≡ (has_any xs c || has_any ys c)
has_both xs ys c = list_any-append (λ l. has l.cells c) xs ys

or_left : (a b : Bool) → a ≡ true → (a || b) ≡ true
or_left true b h = refl
or_left false b h = absurd (cc)

or_right : (a b : Bool) → b ≡ true → (a || b) ≡ true
or_right true b h = refl
or_right false b h = h

-- one of two that isn't lost when the first grows
or_more : (a b d : Bool) → (a ≡ true → d ≡ true) → (a || b) ≡ true → (d || b) ≡ true
or_more true b d more h = or_left d b (more refl)
or_more false b d more h = or_right d b h

or_later : (a b d : Bool) → (b ≡ true → d ≡ true) → (a || b) ≡ true → (a || d) ≡ true
or_later true b d more h = refl
or_later false b d more h = more h

first_joins : (b : Block) (old new rest : List Layer) → Joins b old new → Joins b (old ++ rest) (new ++ rest)
first_joins b old new rest j = record {
  kept = λ c all h. has_both new rest c ∙ or_more (has_any old c) (has_any rest c) (has_any new c) (j.kept c all) (sym (has_both old rest c) ∙ h);
  joined = λ c all inside. has_both new rest c ∙ or_left (has_any new c) (has_any rest c) (j.joined c all inside);
}

second_joins : (b : Block) (front old new : List Layer) → Joins b old new → Joins b (front ++ old) (front ++ new)
second_joins b front old new j = record {
  kept = λ c all h. has_both front new c ∙ or_later (has_any front c) (has_any old c) (has_any new c) (j.kept c all) (sym (has_both front old c) ∙ h);
  joined = λ c all inside. has_both front new c ∙ or_right (has_any front c) (has_any new c) (j.joined c all inside);
}

touched_read : (b : Block) (read more written : List Layer) → Joins b read more → Joins b (touched (record { read = read; written = written })) (touched (record { read = more; written = written }))
unfolding touched
touched_read b read more written j = first_joins b read more written j

touched_written : (b : Block) (read written more : List Layer) → Joins b written more → Joins b (touched (record { read = read; written = written })) (touched (record { read = read; written = more }))
unfolding touched
touched_written b read written more j = second_joins b read written more j

pub read_marked : (b : Block) (writes : Bool) (read more written : List Layer) → writes ≡ false → Joins b read more
    → Marked b writes (record { read = read; written = written }) (record { read = more; written = written })
read_marked b writes read more written w j = record { all = touched_read b read more written j; written = λ h. absurd (cc); kept = λ h. refl }

pub written_marked : (b : Block) (writes : Bool) (read written more : List Layer) → writes ≡ true → Joins b written more
    → Marked b writes (record { read = read; written = written }) (record { read = read; written = more })
written_marked b writes read written more w j = record { all = touched_written b read written more j; written = λ h. j; kept = λ h. absurd (cc) }
