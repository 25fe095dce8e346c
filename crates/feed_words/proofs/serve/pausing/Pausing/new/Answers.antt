use Rattle.feed_words.proofs.serve.pausing.Pausing.new.Goals as goal

pub returns : goal.returns
returns g c = λ start. record { ready = c.new.ensures start; lists = λ goes. c.new-2.ensures }
