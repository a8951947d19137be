use Rattle.file_tests.proofs.file.split_and_weigh.Goals as goal

pub weigh-requires : goal.weigh-requires
weigh-requires g c = record { own = c.in-Ok.ensures.own c.args.hand.now.pool c.requires.own }
