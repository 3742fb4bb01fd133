-- The entry's term, written out at the root, is the tree of what was placed.
use Rattle.std.proofs.Common.{◌≡◌, ℕ, pos, false, List, [], ◌∷◌, None, refl, subst}
use Rattle.sq_ir.specs.Leaf.declared.shape.Shape.{Shape}
use Rattle.sq_ir.specs.Written.{Setting, at_root}
use Rattle.sq_ir.specs.declared.num.Num.TheVariants as n
use Rattle.sq_ir.specs.Blocks.declared.argument.Argument.{Argument}
use Rattle.sq_placed.specs.declared.home.Home.{Home}
use Rattle.sq_placed.specs.declared.home.Home.TheVariants.{InPlace, Own, Held, Twin}
use Rattle.sq_placed.specs.Tables.{placed_of}
use Rattle.sq_term.specs.Terms.{term_of, entry_views, entry_context, entry_row, buffer_or}
use Rattle.sq_term.specs.Stands.{Each, none, more, IsSeat, to_child, IsOf, AreOf, LocalsOf}
use Rattle.sq_term.specs.Laws.{TermIsTree, EntryIsTree, entry_seats}
use Rattle.sq_term.proofs.Numbers.{const_is, constant}
use Rattle.sq_term.proofs.Arms.{IsHead}
use Rattle.sq_term.proofs.Calls.{buffer_is}
use Rattle.sq_term.proofs.Same.{arm_same, forms_same}

pub heads_refl : (xs : List Argument) → Each IsHead xs xs
heads_refl [] = none
heads_refl (x ∷ xs) = more (record { mode = refl; is_reduced = refl; array = refl }) (heads_refl xs)

buffer_level : (s : Setting) → s.level 0 ≡ 0 → (h : Home) → IsOf s 0 h → s.level (buffer_or h) ≡ 0
buffer_level s zero_is InPlace o = zero_is
buffer_level s zero_is (Own b) o = o
buffer_level s zero_is (Held b loops) o = o
buffer_level s zero_is (Twin b c) o = o.0

views_are : (s : Setting) → s.level 0 ≡ 0 → (shapes : List Shape) (hs : List Home) → AreOf s 0 hs
    → Each (IsSeat s at_root 0) (entry_views shapes hs) (entry_seats s shapes hs)
views_are s zero_is shapes [] o = none
views_are s zero_is [] (h ∷ hs) o = none
views_are s zero_is (x ∷ shapes) (h ∷ hs) o
    = more (buffer_is s at_root 0 0 refl (buffer_or h) x (buffer_level s zero_is h o.0))
    (views_are s zero_is shapes hs o.1)

pub entry_is_tree : EntryIsTree
entry_is_tree s bodies homes level leveled stand first root d args =
    arm_same s bodies homes level (term_of bodies homes d) (placed_of bodies homes d)
    (forms_same s bodies homes level leveled stand d) [] None false (entry_row args ∷ []) 0 (entry_row args) []
    (entry_context (bodies 0) (homes 0)) at_root 0 false 0 0 (entry_seats s (bodies 0).arrays (homes 0).params) [] tt
    (subst (λ (l : ℕ). LocalsOf s l (homes 0).locals) first (leveled.locals 0)) first refl (entry_row args) refl
    (heads_refl args)
    (record {
      ordinal = constant s [] 0;
      goes = to_child (n.Const (pos 0)) refl (const_is s at_root (pos 0));
      node_is = refl;
      views = views_are s root (bodies 0).arrays (homes 0).params
          (subst (λ (l : ℕ). AreOf s l (homes 0).params) first (leveled.params 0));
      numbers = none;
    })

pub term_is_tree : TermIsTree
term_is_tree s bodies homes level leveled stand d k c env node seats path h
    = forms_same s bodies homes level leveled stand d k c env node seats path h
