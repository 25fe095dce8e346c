use Rattle.task_words.proofs.reading.intake.TaskIntake.take.Goals as goal

pub returns-in-Declared-clause-names : goal.returns-in-Declared-clause-names
returns-in-Declared-clause-names c = λ until a keeps. c.declare.ensures.names until _ a

pub returns-in-Factored-clause-names : goal.returns-in-Factored-clause-names
returns-in-Factored-clause-names c = λ until a keeps. c.declare-in-Factored.ensures.names until _ a

pub returns-in-End-clause-names : goal.returns-in-End-clause-names
returns-in-End-clause-names c = λ until a keeps. c.end.ensures.names until _ a
