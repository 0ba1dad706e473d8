use Rattle.std.proofs.Common.{◌≡◌, ◌^◌, ◌<◌, drop}
use Rattle.std.specs.Str.{all_ascii_digits}
use Rattle.trace_format.specs.Words.{value_after}
use Rattle.threaded_replay.proofs.thread.value.Given as goal

abbrev pub invariant-loop-digit : goal.invariant-loop-digit
invariant-loop-digit l = record {
  digits : all_ascii_digits (drop l.digit-index l.word) ≡ all_ascii_digits l.word;
  so_far : value_after l.value (drop l.digit-index l.word) ≡ value_after 0 l.word;
  small : l.value < 10 ^ l.digit-index;
}
