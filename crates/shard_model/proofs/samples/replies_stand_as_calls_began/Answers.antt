-- By computation.
use Rattle.std.specs.Fmt.{digits}
use Rattle.command_tables.specs.Table.{row_of}
use Rattle.command_tables.specs.Tests.{same_type, same_command, same_code}
use Rattle.std.proofs.Common.{ℕ, List, [], ◌∷◌, refl, ap, arith}
use Rattle.std.specs.Prelude.{slice_index}
use Rattle.session_model.specs.Samples.{one_handle}
use Rattle.shard_model.specs.Samples.{replied}
use Rattle.shard_model.proofs.samples.replies_stand_as_calls_began.Goals as goal

pub returns : goal.returns
unfolding digits row_of same_type same_command same_code
returns c =
    record {
      returned = (
        (
          record {
            before = one_handle 5 ∷ replied;
            own = one_handle 6 ∷ [];
            earlier = record { before = replied; own = one_handle 5 ∷ []; earlier = refl; may = (record { code = refl; count = refl; handles = refl }, tt); are = refl };
            may = (record { code = refl; count = refl; handles = refl }, tt);
            are = refl;
          },
          refl,
        ),
        refl,
      );
      swapped = λ h. let e = ap (λ (l : List ℕ). slice_index l 0) h.1 in omega arith;
      both_open =
          record {
            before = one_handle 30 ∷ replied;
            own = one_handle 20 ∷ [];
            earlier = record { before = replied; own = one_handle 30 ∷ []; earlier = refl; may = (record { code = refl; count = refl; handles = refl }, tt); are = refl };
            may = (record { code = refl; count = refl; handles = refl }, tt);
            are = refl;
          };
    }
