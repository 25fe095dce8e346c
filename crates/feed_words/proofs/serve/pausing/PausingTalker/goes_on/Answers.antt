use Rattle.feed_words.proofs.serve.pausing.PausingTalker.goes_on.Goals as goal

pub goes_on-requires : goal.goes_on-requires
goes_on-requires g c = (c.requires.0, c.requires.1, c.requires.2.ready)

pub returns : goal.returns
returns g c = λ a x at. c.goes_on.ensures a x at.ready
