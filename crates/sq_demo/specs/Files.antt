-- What the files of the demo hold.
use Rattle.sq_port.specs.Ports.{Content}
use Rattle.sq_demo.specs.declared.files.DemoFiles.{DemoFiles}
use Rattle.sq_demo.specs.Texts.{content_of}

abbrev pub files_content : DemoFiles → Content
files_content f = content_of f.texts.program.items f.texts.mapping.items f.texts.machine.items f.input.items
