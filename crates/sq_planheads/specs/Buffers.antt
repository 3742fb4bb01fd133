-- Tests of the buffers of a plan file whose nodes are those of a machine.
use Rattle.std.specs.Prelude.{ℕ, ◌-◌, ◌^◌, Bool, not, ◌&&◌, nat_le, Option}
use Rattle.sq_text.specs.declared.code.Code.TheVariants as code
use Rattle.sq_text.specs.Found.{Breach, at_place}
use Rattle.sq_plantext.specs.declared.text.BufferLine.{BufferLine}

-- a buffer at one of the levels down to this one
abbrev pub is_buffer : (last : ℕ) → BufferLine → Bool
is_buffer last b = nat_le b.level last && (nat_le b.offset (2 ^ 30) && nat_le b.size (2 ^ 30 - b.offset))

abbrev pub buffer_breach : (last : ℕ) → BufferLine → Option Breach
buffer_breach last b = at_place code.BadBuffer b.place (not (is_buffer last b))
