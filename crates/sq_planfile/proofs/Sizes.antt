-- The events and the levels of a term of a text, one equation for each variant.
use Rattle.std.proofs.Common.{◌≡◌, ℕ, List, map, sym, ap, ◌∙◌}
use Rattle.sq_text.specs.declared.place.Place.{Place}
use Rattle.sq_plantext.specs.declared.text.EventText.{EventText}
use Rattle.sq_plantext.specs.declared.text.TermText.{TermText}
use Rattle.sq_plantext.specs.declared.text.TermText.TheVariants as t
use Rattle.sq_plantext.specs.declared.text.TermText.TheOpen.{TermText-F}
use Rattle.sq_plantext.specs.declared.text.TermText.TheFolds.{fold-roll-TermText}
use Rattle.sq_planfile.specs.Limits.{size_step, size, depth_step, depth}

pub size_seq : (xs : List TermText) → size (t.Seq xs) ≡ size_step (TermText-F.Seq (map size xs))
size_seq xs = ap size (sym (t.rolls-Seq xs)) ∙ fold-roll-TermText ℕ size_step (TermText-F.Seq xs)

pub size_par : (xs : List TermText) → size (t.Par xs) ≡ size_step (TermText-F.Par (map size xs))
size_par xs = ap size (sym (t.rolls-Par xs)) ∙ fold-roll-TermText ℕ size_step (TermText-F.Par xs)

pub size_at : (p : Place) (node : ℕ) (bs : List ℕ) (x : TermText) → size (t.At p node bs x) ≡ size_step (TermText-F.At p node bs (size x))
size_at p node bs x = ap size (sym (t.rolls-At p node bs x)) ∙ fold-roll-TermText ℕ size_step (TermText-F.At p node bs x)

pub size_act : (p : Place) (e : EventText) → size (t.Act p e) ≡ 1
size_act p e = ap size (sym (t.rolls-Act p e)) ∙ fold-roll-TermText ℕ size_step (TermText-F.Act p e)

pub depth_seq : (xs : List TermText) → depth (t.Seq xs) ≡ depth_step (TermText-F.Seq (map depth xs))
depth_seq xs = ap depth (sym (t.rolls-Seq xs)) ∙ fold-roll-TermText ℕ depth_step (TermText-F.Seq xs)

pub depth_par : (xs : List TermText) → depth (t.Par xs) ≡ depth_step (TermText-F.Par (map depth xs))
depth_par xs = ap depth (sym (t.rolls-Par xs)) ∙ fold-roll-TermText ℕ depth_step (TermText-F.Par xs)

pub depth_at : (p : Place) (node : ℕ) (bs : List ℕ) (x : TermText) → depth (t.At p node bs x) ≡ depth_step (TermText-F.At p node bs (depth x))
depth_at p node bs x = ap depth (sym (t.rolls-At p node bs x)) ∙ fold-roll-TermText ℕ depth_step (TermText-F.At p node bs x)

pub depth_act : (p : Place) (e : EventText) → depth (t.Act p e) ≡ depth_step (TermText-F.Act p e)
depth_act p e = ap depth (sym (t.rolls-Act p e)) ∙ fold-roll-TermText ℕ depth_step (TermText-F.Act p e)

pub ruleset depth_forms = (depth_seq, depth_par, depth_at, depth_act)
