-- The lines of words that are commands.
use Rattle.std.specs.Prelude.{ℕ, ◌+◌, ◌-◌, ◌*◌, ◌^◌, nat_le, nat_lt, Bool, true, false, ◌&&◌, ◌==◌, List, [], ◌∷◌, length, take, drop, Option, Some, None, if◌then◌else◌, codes, map, String, string_bytes}
use Rattle.std.specs.List.{fold, list_all}
use Rattle.std.specs.Str.{bytes_eq}
use Rattle.std.specs.Option.{option_map, option_and_then, unwrap_or}
use Rattle.std.specs.declared.alloc.Global.{Global}
use Rattle.sq_words.specs.declared.options.Way.{Way as ReadWay}
use Rattle.sq_words.specs.declared.options.Way.TheVariants.{First, Last, Seed, List as Listed}
use Rattle.sq_words.specs.declared.words.Kind.{Kind}
use Rattle.sq_words.specs.declared.words.Kind.TheVariants.{Check, Fmt, Plan, Eval, Run, Demo, Compile, Tune, Span, Exec}
use Rattle.sq_words.specs.declared.words.Command.{Command as Read}
use Rattle.sq_words.specs.declared.words.Command.TheVariants.{Check as ReadCheck, Fmt as ReadFmt, Plan as ReadPlan, Eval as ReadEval, Run as ReadRun, Demo as ReadDemo, Compile as ReadCompile, Tune as ReadTune, Span as ReadSpan, Exec as ReadExec}

-- ---- commands

-- what a file of the words is for
pub data Role : Type 0 where
  program : Role
  mapping : Role
  machine : Role
  input : Role
  order : Role
  cost : Role
  plan_file : Role

-- the names of files, each by what it is for
pub record Files : Type 0 where
  pub program : Option (List ℕ)
  pub mapping : Option (List ℕ)
  pub machine : Option (List ℕ)
  pub input : Option (List ℕ)
  pub order : Option (List ℕ)
  pub cost : Option (List ℕ)
  pub plan_file : Option (List ℕ)

abbrev pub no_files : Files
no_files = record { program = None; mapping = None; machine = None; input = None; order = None; cost = None; plan_file = None }

abbrev pub named : Files → Role → Option (List ℕ)
named files program = files.program
named files mapping = files.mapping
named files machine = files.machine
named files input = files.input
named files order = files.order
named files cost = files.cost
named files plan_file = files.plan_file

abbrev pub with_file : Role → List ℕ → Files → Files
with_file program name files = record files { program = Some name }
with_file mapping name files = record files { mapping = Some name }
with_file machine name files = record files { machine = Some name }
with_file input name files = record files { input = Some name }
with_file order name files = record files { order = Some name }
with_file cost name files = record files { cost = Some name }
with_file plan_file name files = record files { plan_file = Some name }

-- which of its ready events a run performs next: by a seed, those that its generator draws; by a list, those that the
-- numbers of a file say
pub data Way : Type 0 where
  first : Way
  last : Way
  seed : (n : ℕ) → Way
  list : Way

-- a command, with the names of its files; of other kinds than runs and the demo the way is the first, and none is
-- traced but a run of a program or of a plan file
pub record Command : Type 0 where
  pub kind : Kind
  pub files : Files
  pub way : Way
  pub traced : Bool

-- ---- seeds

abbrev pub is_digit : ℕ → Bool
is_digit b = nat_le 48 b && nat_le b 57

abbrev pub with_digit : ℕ → ℕ → ℕ
with_digit n b = 10 * n + (b - 48)

-- the number of digits: 3 and 7 are 37
abbrev pub number : List ℕ → ℕ
number = fold with_digit 0

-- 1 to 20 digits of a number of 64 bits
abbrev pub is_seed : List ℕ → Bool
is_seed text = nat_le 1 (length text) && nat_le (length text) 20 && list_all is_digit text && nat_lt (number text) (2 ^ 64)

abbrev pub seed_number : List ℕ → Option ℕ
seed_number text = if is_seed text then Some (number text) else None

-- ---- options

-- what stands behind the front of a text that begins with it: 7 behind `seed:` in `seed:7`
abbrev pub behind : List ℕ → List ℕ → Option (List ℕ)
behind [] text = Some text
behind (b ∷ front) [] = None
behind (b ∷ front) (c ∷ text) = if b == c then behind front text else None

-- a way, and its file where it is a list
pub record Order : Type 0 where
  pub way : Way
  pub file : Option (List ℕ)

abbrev pub with_no_file : Way → Order
with_no_file way = record { way = way; file = None }

abbrev pub listed : List ℕ → Order
listed file = record { way = list; file = Some file }

-- of what stands behind `seed:`, else of what stands behind `list:`
abbrev pub seeded_or_listed : Option (List ℕ) → Option (List ℕ) → Option Order
seeded_or_listed (Some digits) file = option_map (λ n. with_no_file (seed n)) (seed_number digits)
seeded_or_listed None file = option_map listed file

-- `first`, `last`, `seed:N` or `list:FILE`
abbrev pub order_of : List ℕ → Option Order
order_of text =
    if bytes_eq text (codes "first")
    then Some (with_no_file first)
    else (if bytes_eq text (codes "last") then Some (with_no_file last) else seeded_or_listed (behind (codes "seed:") text) (behind (codes "list:") text))

-- `yes` or `no`
abbrev pub answer_of : List ℕ → Option Bool
answer_of text = if bytes_eq text (codes "yes") then Some true else (if bytes_eq text (codes "no") then Some false else None)

-- what one option says
pub data Setting : Type 0 where
  order_is : (order : Order) → Setting
  traced_is : (traced : Bool) → Setting

-- of what stands behind `order=`, else of what stands behind `trace=`
abbrev pub order_or_trace : Option (List ℕ) → Option (List ℕ) → Option Setting
order_or_trace (Some text) other = option_map order_is (order_of text)
order_or_trace None other = option_map traced_is (option_and_then answer_of other)

-- `order=..` or `trace=..`
abbrev pub setting_of : List ℕ → Option Setting
setting_of word = order_or_trace (behind (codes "order=") word) (behind (codes "trace=") word)

-- what the options of a run say
pub record Options : Type 0 where
  pub order : Option Order
  pub traced : Option Bool

abbrev pub no_options : Options
no_options = record { order = None; traced = None }

-- what they say with one more, unless they say it already
abbrev pub with_order : Option Order → Order → Options → Option Options
with_order None said options = Some (record options { order = Some said })
with_order (Some before) said options = None

abbrev pub with_traced : Option Bool → Bool → Options → Option Options
with_traced None said options = Some (record options { traced = Some said })
with_traced (Some before) said options = None

abbrev pub with_setting : Options → Setting → Option Options
with_setting options (order_is said) = with_order options.order said options
with_setting options (traced_is said) = with_traced options.traced said options

abbrev pub with_word : Options → List ℕ → Option Options
with_word options word = option_and_then (with_setting options) (setting_of word)

-- with these words, each an option
abbrev pub options_of : Options → List (List ℕ) → Option Options
options_of options [] = Some options
options_of options (word ∷ words) = option_and_then (λ more. options_of more words) (with_word options word)

-- ---- lines

-- the first word of a command
abbrev pub kind_of : List ℕ → Option Kind
kind_of word = if bytes_eq word (codes "check") then Some Check else (if bytes_eq word (codes "fmt") then Some Fmt else (if bytes_eq word (codes "plan") then Some Plan else (if bytes_eq word (codes "eval") then Some Eval else (if bytes_eq word (codes "run") then Some Run else (if bytes_eq word (codes "demo") then Some Demo else (if bytes_eq word (codes "compile") then Some Compile else (if bytes_eq word (codes "tune") then Some Tune else (if bytes_eq word (codes "span") then Some Span else (if bytes_eq word (codes "exec") then Some Exec else None)))))))))

-- its further words: what the files that they name are for
abbrev pub roles : Kind → List Role
roles Check = program ∷ []
roles Fmt = program ∷ []
roles Plan = program ∷ mapping ∷ machine ∷ []
roles Eval = program ∷ mapping ∷ machine ∷ input ∷ []
roles Run = program ∷ mapping ∷ machine ∷ input ∷ []
roles Demo = []
roles Compile = program ∷ mapping ∷ machine ∷ []
roles Tune = program ∷ mapping ∷ machine ∷ []
roles Span = program ∷ mapping ∷ machine ∷ cost ∷ []
roles Exec = plan_file ∷ input ∷ []

-- a name for each of the roles, and none too many
abbrev pub named_in_turn : List Role → List (List ℕ) → Files → Option Files
named_in_turn [] [] files = Some files
named_in_turn (role ∷ rest) (name ∷ names) files = named_in_turn rest names (with_file role name files)
named_in_turn rest names files = None

-- the order of a number, which a seed is made of
abbrev pub seeded : List ℕ → Option Options
seeded text = option_map (λ n. record { order = Some (with_no_file (seed n)); traced = None }) (seed_number text)

-- one word, which is a number
abbrev pub seed_for : List (List ℕ) → Option Options
seed_for (word ∷ []) = seeded word
seed_for words = None

-- what the words behind the names say: runs of programs and of plan files have options, and the demo has a number, the
-- seed of its order
abbrev pub options_for : Kind → List (List ℕ) → Option Options
options_for Run words = options_of no_options words
options_for Exec words = options_of no_options words
options_for Demo words = seed_for words
options_for kind [] = Some no_options
options_for kind (word ∷ words) = None

-- a command over these files, and that of an order beside them
abbrev pub command_with : Kind → Files → Order → Bool → Command
command_with kind files said traced = record { kind = kind; files = record files { order = said.file }; way = said.way; traced = traced }

-- where the options don't say otherwise, the order is the first, and nothing is traced
abbrev pub command_from : Kind → Option Files → Option Options → Option Command
command_from kind (Some files) (Some options) = Some (command_with kind files (unwrap_or options.order (with_no_file first)) (unwrap_or options.traced false))
command_from kind (Some files) None = None
command_from kind None options = None

-- by the names, one for each role, and the words behind them
abbrev pub named_command : Option Kind → List (List ℕ) → Option Command
named_command None words = None
named_command (Some kind) words = command_from kind (named_in_turn (roles kind) (take (length (roles kind)) words) no_files) (options_for kind (drop (length (roles kind)) words))

-- the command that a line of words is, if it is one
abbrev pub command_of : List (List ℕ) → Option Command
command_of [] = None
command_of (word ∷ words) = named_command (kind_of word) words

abbrev pub texts : List (String Global) → List (List ℕ)
texts words = map string_bytes words

-- ---- the command of each kind

abbrev pub check_of : List ℕ → Command
check_of name = command_with Check (with_file program name no_files) (with_no_file first) false

abbrev pub fmt_of : List ℕ → Command
fmt_of name = command_with Fmt (with_file program name no_files) (with_no_file first) false

-- the names of three files
abbrev pub source_files : List ℕ → List ℕ → List ℕ → Files
source_files name its_mapping its_machine = with_file machine its_machine (with_file mapping its_mapping (with_file program name no_files))

-- and of the data
abbrev pub all_files : List ℕ → List ℕ → List ℕ → List ℕ → Files
all_files name its_mapping its_machine its_input = with_file input its_input (source_files name its_mapping its_machine)

abbrev pub plan_of : List ℕ → List ℕ → List ℕ → Command
plan_of name its_mapping its_machine = command_with Plan (source_files name its_mapping its_machine) (with_no_file first) false

abbrev pub compile_of : List ℕ → List ℕ → List ℕ → Command
compile_of name its_mapping its_machine = command_with Compile (source_files name its_mapping its_machine) (with_no_file first) false

abbrev pub tune_of : List ℕ → List ℕ → List ℕ → Command
tune_of name its_mapping its_machine = command_with Tune (source_files name its_mapping its_machine) (with_no_file first) false

-- the names of three files and of costs
abbrev pub span_files : List ℕ → List ℕ → List ℕ → List ℕ → Files
span_files name its_mapping its_machine its_cost = with_file cost its_cost (source_files name its_mapping its_machine)

abbrev pub span_of : List ℕ → List ℕ → List ℕ → List ℕ → Command
span_of name its_mapping its_machine its_cost = command_with Span (span_files name its_mapping its_machine its_cost) (with_no_file first) false

abbrev pub eval_of : List ℕ → List ℕ → List ℕ → List ℕ → Command
eval_of name its_mapping its_machine its_input = command_with Eval (all_files name its_mapping its_machine its_input) (with_no_file first) false

abbrev pub run_of : List ℕ → List ℕ → List ℕ → List ℕ → Order → Bool → Command
run_of name its_mapping its_machine its_input said traced = command_with Run (all_files name its_mapping its_machine its_input) said traced

abbrev pub exec_of : (its_plan its_input : List ℕ) → Order → Bool → Command
exec_of its_plan its_input said traced = command_with Exec (with_file input its_input (with_file plan_file its_plan no_files)) said traced

-- the demo of this number
abbrev pub demo_of : ℕ → Command
demo_of n = command_with Demo no_files (with_no_file (seed n)) false

-- the order that was read
abbrev pub asked : ReadWay → Order
asked First = with_no_file first
asked Last = with_no_file last
asked (Seed n) = with_no_file (seed n)
asked (Listed file) = listed file.now

-- the command that was read
abbrev pub meant : Read → Command
meant (ReadCheck words) = check_of words.program.now
meant (ReadFmt words) = fmt_of words.program.now
meant (ReadPlan words) = plan_of words.program.now words.mapping.now words.machine.now
meant (ReadEval words) = eval_of words.program.now words.mapping.now words.machine.now words.input.now
meant (ReadRun words) = run_of words.program.now words.mapping.now words.machine.now words.input.now (asked words.order) words.traced
meant (ReadDemo words) = demo_of words.seed
meant (ReadCompile words) = compile_of words.program.now words.mapping.now words.machine.now
meant (ReadTune words) = tune_of words.program.now words.mapping.now words.machine.now
meant (ReadSpan words) = span_of words.program.now words.mapping.now words.machine.now words.cost.now
meant (ReadExec words) = exec_of words.plan.now words.input.now (asked words.order) words.traced
