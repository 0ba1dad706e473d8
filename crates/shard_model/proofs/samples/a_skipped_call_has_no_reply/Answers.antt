-- By computation.
use Rattle.std.specs.Fmt.{digits}
use Rattle.command_tables.specs.Table.{row_of}
use Rattle.command_tables.specs.Tests.{same_type, same_command, same_code}
use Rattle.std.proofs.Common.{[], ◌∷◌, refl}
use Rattle.shard_model.specs.Samples.{refusal, replied}
use Rattle.shard_model.proofs.samples.a_skipped_call_has_no_reply.Goals as goal

pub returns : goal.returns
unfolding digits row_of same_type same_command same_code
returns c =
    record {
      untold = refl;
      one = (
        record {
          before = refusal ∷ replied;
          own = [];
          earlier = (record { before = replied; own = refusal ∷ []; earlier = refl; may = (record { code = refl; count = refl; handles = refl }, tt); are = refl }, refl);
          may = tt;
          are = refl;
        },
        refl,
      );
    }
