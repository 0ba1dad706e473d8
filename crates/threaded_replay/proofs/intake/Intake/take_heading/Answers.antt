use Rattle.threaded_replay.proofs.intake.Intake.take_heading.Goals as goal

pub returns-in_ok-end_section-in-Ok : goal.returns-in_ok-end_section-in-Ok
returns-in_ok-end_section-in-Ok c = λ lines stands.
    let two = c.in-Ok.ensures lines stands.state in
    (two.0, record { state = two.1; draft = c.in_ok-end_section-in-Ok.ensures lines c.args.heading stands.draft stands.state.kept.section })
