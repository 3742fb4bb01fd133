-- The form that is walked, and which instances serve its calls.
use Rattle.std.specs.Prelude.{ℕ, List, Option, Some, None, slice_get}
use Rattle.sq_ast.specs.declared.program.Variant.{Variant}
use Rattle.sq_ast.specs.declared.program.Param.{Param}
use Rattle.sq_mapping.specs.declared.mapping.Instance.{Instance}
use Rattle.sq_mapping.specs.declared.mapping.Route.{Route}
use Rattle.sq_text.specs.Names.{Bytes}
use Rattle.sq_forms.specs.Tables.{route_of, variant_of}
use Rattle.sq_forms.specs.declared.world.Frame.{Frame as CodeFrame}
use Rattle.sq_forms.specs.declared.world.Callee.{Callee as CodeCallee}

pub record Frame : Type 0 where
  pub variants : List Variant
  pub instances : List Instance
  pub routes : List Route
  pub form : ℕ
  pub level : ℕ
  -- the maps round the call by which the form is reached, and the forms down to it
  pub maps : ℕ
  pub depth : ℕ

abbrev pub frame_of : CodeFrame → Frame
frame_of f = record {
  variants = f.variants.now.list.now;
  instances = f.instances.now;
  routes =
      f.routes.now.list.now;
  form = f.form;
  level = f.level;
  maps = f.maps;
  depth = f.depth;
}

pub record Callee : Type 0 where
  pub instance : ℕ
  pub level : ℕ
  pub params : List Param

abbrev pub callee_by : CodeCallee → Callee
callee_by c = record { instance = c.instance; level = c.level; params = c.params.now }

abbrev pub as_callee : ℕ → Instance → Option Variant → Option Callee
as_callee number x None = None
as_callee number x (Some v) = Some (record { instance = number; level = x.level; params = v.params })

abbrev pub served_by : Frame → ℕ → Option Instance → Option Callee
served_by frame number None = None
served_by frame number (Some x) = as_callee number x (variant_of frame.variants x.task x.kind)

abbrev pub callee_at : Frame → Option ℕ → Option Callee
callee_at frame None = None
callee_at frame (Some number) = served_by frame number (slice_get frame.instances number)

abbrev pub callee_of : Frame → Bytes → Option Callee
callee_of frame task = callee_at frame (route_of frame.routes task)
