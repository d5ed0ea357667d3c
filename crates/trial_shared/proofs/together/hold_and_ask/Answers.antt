use Rattle.trial_shared.proofs.together.hold_and_ask.Goals as goal

pub ask_in_two_threads-pass-requires-clause-one : goal.ask_in_two_threads-pass-requires-clause-one
ask_in_two_threads-pass-requires-clause-one g c = λ _ _. c.renewal_and_reading-one.ensures _ c.requires.point

pub ask_in_two_threads-pass-requires-clause-two : goal.ask_in_two_threads-pass-requires-clause-two
ask_in_two_threads-pass-requires-clause-two g c = λ _ _. c.renewal_and_reading-two.ensures _ c.requires.point
