use Rattle.std.proofs.Common.{◌≡◌, ℕ, ◌+◌, ◌-◌, ◌≤◌, List, length, take, drop, sym, refl, ap, arith}
use Rattle.laws.proofs.Parts.{rest}
use Rattle.frame.specs.Entry.{least_entry, parameter_offset, entry_size}
use Rattle.frame.proofs.Entries.{offset_other, least_command_lem}
use Rattle.fields.specs.Place.{parameters_of}
use Rattle.fields.specs.Fields.{command_of}
use Rattle.fields.specs.declared.CommandFields.{CommandFields}
use Rattle.device.specs.Run.{unchanged}
use Rattle.objects.specs.Answers.{answer_in}
use Rattle.serve.specs.Serve.{ran_with, ran_first}
use Rattle.serve.proofs.Serves.{size_given, serving_step}
use Rattle.serve.proofs.serve.Goals as goal
use Rattle.serve.proofs.serve.Goals.{After-given_size-size, After-run-answer}

-- the size that was read is the first entry's
sized : (c : After-given_size-size) → (c.given_size-size.result ≡ entry_size c.args.kind c.loop.t.now) × (17 ≤ c.given_size-size.result) × (c.given_size-size.result ≤ length c.loop.t.now) × (length (take c.given_size-size.result c.loop.t.now) ≡ c.given_size-size.result)
sized c =
    let l = c.loop in
    let w = l.invariant in
    size_given (c.args.count - l.counter) c.args.kind l.t.now _ (omega arith) (omega arith) w.fill c.given_size-size.ensures.0

pub given_size-size-requires : goal.given_size-size-requires
given_size-size-requires c =
    let l = c.loop in
    let w = l.invariant in
    let f = size_given (c.args.count - l.counter) c.args.kind l.t.now _ (omega arith) (omega arith) w.fill refl in
    omega (arith, f.1, f.2)

pub slice_bounds-e-end : goal.slice_bounds-e-end
slice_bounds-e-end c = sym (sized (goal.at.slice_bounds-e-end c).After-given_size-size).3

pub command_of-c-requires : goal.command_of-c-requires
command_of-c-requires c = let f = sized (goal.at.command_of-c-requires c).After-given_size-size in omega (arith, f.1, f.3)

pub parameters-requires : goal.parameters-requires
parameters-requires c =
    let f = sized (goal.at.parameters-requires c).After-given_size-size in
    let o : (e : List ℕ) → parameter_offset c.args.kind e ≡ least_entry c.args.kind = λ e. offset_other c.args.kind e (λ z. omega arith) in
    rw o (omega (arith, f.1, f.3, least_command_lem c.args.kind (omega arith)))

size_is : (c : After-run-answer) → c.given_size-size.result ≡ entry_size c.args.kind c.loop.t.now
size_is c =
    let l = c.loop in
    (size_given (c.args.count - l.counter) c.args.kind l.t.now _ (omega arith) (omega arith) l.invariant.fill c.given_size-size.ensures.0).0

-- the fields that were read are the first entry's
fields : (c : After-run-answer) → c.command_of-c.result ≡ command_of (take (entry_size c.args.kind c.loop.t.now) c.loop.t.now)
fields c = let s = size_is c in cc

-- that is the first entry's command
first : (c : After-run-answer) → unchanged c.run-answer.new.device (answer_in c.run-answer.result) ≡ ran_first c.loop.device c.args.n c.args.kind c.loop.t.now
unfolding ran_first ran_with
first c =
    let l = c.loop in
    let s = size_is c in
    let f = fields c in
    let p : c.parameters.result.now ≡ parameters_of c.args.kind (take (entry_size c.args.kind l.t.now) l.t.now) = cc in
    cc

pub slice_bounds-t-count : goal.slice_bounds-t-count
slice_bounds-t-count c = (sized (goal.at.slice_bounds-t-count c).After-given_size-size).2

pub slice_bounds-t-start : goal.slice_bounds-t-start
slice_bounds-t-start c = let f = sized (goal.at.slice_bounds-t-start c).After-given_size-size in omega (arith, f.2)

pub loop-preserved : goal.loop-preserved
loop-preserved c =
    let j = (goal.at.loop-preserved c).After-run-answer in
    let l = c.loop in
    let a = c.args in
    let t = l.t.now in
    let size = c.given_size-size.result in
    let s : size ≡ entry_size a.kind t = size_is j in
    let z : take (length t - size) (drop size t) ≡ drop (entry_size a.kind t) t = cc (rest size t) in
    let o : a.count - (l.counter + 1) ≡ (a.count - l.counter) - 1 = omega arith in
    let f = first j in
    let h = ap (λ (k : CommandFields). k.handle) (fields j) in
    rw (z, o) (serving_step l.invariant (omega arith) f h c.answer_to-at.ensures.0 c.answer_to-at.ensures.1)
