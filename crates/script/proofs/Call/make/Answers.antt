use Rattle.std.proofs.Common.{[]}
use Rattle.script.proofs.Stages.{open_stage, close_stage, tick_stage, take_stage, datagram_stage, deliver_stage}
use Rattle.script.proofs.Call.make.Goals as goal

pub returns-in-Open : goal.returns-in-Open
returns-in-Open c =
    let a = c.args in
    rw c.in-Open.is
    (open_stage c.try_open.new.self c.numbers_told.result _ c.numbers_told.ensures a.state.now a.area.now [] a.output.now [] c.try_open.ensures)

pub returns-in-Close : goal.returns-in-Close
returns-in-Close c =
    let a = c.args in
    rw c.in-Close.is
    (close_stage c.try_close.new.self c.numbers_told-in-Close.result _ c.numbers_told-in-Close.ensures a.state.now a.area.now c.try_close.new.area a.output.now [] c.in-Close.n c.try_close.ensures)

pub returns-in-Tick : goal.returns-in-Tick
returns-in-Tick c =
    let a = c.args in
    rw c.in-Tick.is
    (tick_stage c.try_tick.new.self c.numbers_told-in-Tick.result _ c.numbers_told-in-Tick.ensures a.state.now a.area.now c.try_tick.new.area a.output.now [] c.in-Tick.reading c.try_tick.ensures)

pub returns-in-Take : goal.returns-in-Take
returns-in-Take c =
    let a = c.args in
    rw c.in-Take.is
    (take_stage c.try_take.new.self c.numbers_told-in-Take.result _ c.numbers_told-in-Take.ensures a.state.now a.area.now [] a.output.now c.try_take.new.output c.try_take.ensures)

pub returns-in-Datagram : goal.returns-in-Datagram
returns-in-Datagram c =
    let a = c.args in
    rw c.in-Datagram.is
    (datagram_stage c.try_datagram.new.state c.numbers_told-in-Datagram.result _ c.numbers_told-in-Datagram.ensures a.state.now a.area.now c.try_datagram.new.area a.output.now [] c.in-Datagram.piece.now c.try_datagram.ensures)

pub returns-in-Deliver : goal.returns-in-Deliver
returns-in-Deliver c =
    let a = c.args in
    rw c.in-Deliver.is
    (deliver_stage c.try_deliver.new.self c.numbers_told-in-Deliver.result _ c.numbers_told-in-Deliver.ensures a.state.now a.area.now c.try_deliver.new.area a.output.now c.try_deliver.new.output c.in-Deliver.n c.in-Deliver.piece.now c.try_deliver.ensures)
