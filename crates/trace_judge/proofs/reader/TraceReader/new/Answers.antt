use Rattle.std.proofs.Common.{refl, sym, ap, ◌∙◌, arith, length, [], true, vec_capacity}
use Rattle.std.specs.Int.{from_bool}
use Rattle.dover_model.specs.Common.{by_density}
use Rattle.ready_jobs.specs.Course.{Course, new_course}
use Rattle.trace_judge.specs.Reads.{Opens}
use Rattle.trace_judge.specs.declared.stage.TraceStage.TheVariants.{Opening}
use Rattle.trace_judge.proofs.reader.TraceReader.new.Goals as goal

pub returns-clause-stage : goal.returns-clause-stage
returns-clause-stage c = refl

pub returns-clause-keep : goal.returns-clause-keep
returns-clause-keep c = refl

pub returns-clause-jobs : goal.returns-clause-jobs
returns-clause-jobs c = ap (λ (d : Course). d.jobs) c.in_ok-new.ensures.empty

-- no line is read
opens : (c : goal.After-new-3) → Opens (record {
  stage = Opening;
  course = c.in_ok-new.field-0;
  kept = c.new-3.result;
  items = 0;
  floor = 0;
  keep = c.args.keep;
  steps = c.in_ok-steps.steps.items;
  spare = 0;
  room = vec_capacity c.in_ok-steps.steps;
  refused = 0;
  last = 0;
}) []
opens c = record {
  lines = refl;
  course = c.in_ok-new.ensures.empty ∙ sym (ap (λ (d : Course). new_course d.rules d.room) c.in_ok-new.ensures.empty);
  dense = ap (λ (d : Course). by_density d.rules.version true) c.in_ok-new.ensures.empty;
  items = refl;
  floor = refl;
  steps = c.in_ok-steps.ensures.items;
  refused = refl;
  last = refl;
}

pub invariant_of-result : goal.invariant_of-result
invariant_of-result c =
    let empty = c.in_ok-new.ensures.empty in
    record {
      spare = record {
        ready = omega (arith, ap (λ (d : Course). length d.ready) empty);
        steps = λ keep. omega (
          arith,
          ap (λ (d : Course). d.jobs) empty,
          c.from.ensures ∙ ap from_bool keep,
          c.in_ok-steps.ensures.capacity,
        );
      };
      lines = [];
      reads = opens c;
    }

pub returns-clause-reads : goal.returns-clause-reads
returns-clause-reads c = opens c
