use Rattle.std.proofs.Common.{refl}
use Rattle.session_model.proofs.the_end_line_is_the_traces.Goals as goal

pub returns : goal.returns
returns c = λ s k events replies st. rw (st.calls, st.skipped, st.reports) refl
