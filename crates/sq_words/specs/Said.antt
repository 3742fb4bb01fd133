-- What was read of options.
use Rattle.std.specs.Option.{option_map}
use Rattle.sq_words.specs.declared.options.Options.{Options as ReadOptions}
use Rattle.sq_words.specs.declared.options.Setting.{Setting as ReadSetting}
use Rattle.sq_words.specs.declared.options.Setting.TheVariants.{Order, Traced}
use Rattle.sq_words.specs.Words.{Options, Setting, order_is, traced_is, asked}

abbrev pub set : ReadSetting → Setting
set (Order way) = order_is (asked way)
set (Traced traced) = traced_is traced

abbrev pub said : ReadOptions → Options
said options = record { order = option_map asked options.order; traced = options.traced }
