-- What the demo's names hold.
use Rattle.std.specs.Prelude.{ℕ, List, Some, codes, if◌then◌else◌}
use Rattle.std.specs.Str.{bytes_eq}
use Rattle.sq_port.specs.Ports.{Content}
use Rattle.sq_report.specs.Demo.{demo_program, demo_mapping, demo_machine}
use Rattle.sq_demo.specs.Data.{demo_data}

-- each of its three texts by its name, and the data by every other name
abbrev pub text_named : (program mapping machine given : List ℕ) → List ℕ → List ℕ
text_named program mapping machine given name =
    if bytes_eq name (codes "program") then program
    else (if bytes_eq name (codes "mapping") then mapping
    else (if bytes_eq name (codes "machine") then machine else given))

abbrev pub content_of : (program mapping machine given : List ℕ) → Content
content_of program mapping machine given name = Some (text_named program mapping machine given name)

-- those of the demo of this number
abbrev pub demo_content : ℕ → Content
demo_content seed = content_of demo_program demo_mapping demo_machine (demo_data seed)
