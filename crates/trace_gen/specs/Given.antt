-- What a generated source has still to give. Source: this project.
use Rattle.std.specs.Prelude.{ℕ, List, ◌++◌, drop}
use Rattle.trace_gen.specs.declared.source.GenSource.{GenSource}
use Rattle.trace_gen.specs.Left.{calls_left}
use Rattle.trace_gen.specs.Text.{calls_text}

-- the rest of the lines that were made, and the lines of the calls to come
abbrev pub text_left : GenSource → List ℕ
text_left s = drop s.at s.text.items ++ calls_text (calls_left s.generator)
