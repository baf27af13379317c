-- What typing refuses is answered as it is; else the step is made apart, and nothing is put.
use mathlib.Core.Path.{◌≡◌, sym, ◌∙◌, ap}
use native.Mathlib.Omega.{arith}
use lib.Seq.{length-take-le}
use Rattle.typing.specs.declared.terms.Typing.{Typing}
use Rattle.typing.specs.Answers.{typing_of}
use Rattle.step.proofs.Taking.{slice-size, inside-slice, termed, room, room_out, made_for}
use Rattle.step.proofs.Previewed.{shows_refused, shows_kept, shows_done}
use Rattle.step.proofs.preview.preview_step.Goals as goal

pub slice_bounds-make-end : goal.slice_bounds-make-end
slice_bounds-make-end c =
    let accepted : let a = c.args in (typing_of a.ds.now a.ws.now a.n).code ≡ 0 = omega (arith, ap (λ (t : Typing). t.code) c.type_term-typing.ensures) in
    sym (length-take-le _ _ (inside-slice _ _ _ accepted))

pub make-requires : goal.make-requires
make-requires c =
    let accepted : let a = c.args in (typing_of a.ds.now a.ws.now a.n).code ≡ 0 = omega (arith, ap (λ (t : Typing). t.code) c.type_term-typing.ensures) in
    termed _ _ _ accepted

pub returns-in-Err : goal.returns-in-Err
returns-in-Err c =
    let accepted : let a = c.args in (typing_of a.ds.now a.ws.now a.n).code ≡ 0 = omega (arith, ap (λ (t : Typing). t.code) c.type_term-typing.ensures) in
    let a = accepted in
    let e = c.type_term-typing.ensures in
    shows_refused _ _ _ a _ e _ (made_for _ _ _ a _ _ _ c.in-Err.ensures) c.code.ensures

pub overflow_add-length : goal.overflow_add-length
overflow_add-length c =
    let accepted : let a = c.args in (typing_of a.ds.now a.ws.now a.n).code ≡ 0 = omega (arith, ap (λ (t : Typing). t.code) c.type_term-typing.ensures) in
    let a = accepted in
    omega (arith, room _ _ _ a _ _ _ (made_for _ _ _ a _ _ _ c.in-Ok.ensures), slice-size _ _ _ a)

pub returns-then-keeps_depth : goal.returns-then-keeps_depth
returns-then-keeps_depth c =
    let accepted : let a = c.args in (typing_of a.ds.now a.ws.now a.n).code ≡ 0 = omega (arith, ap (λ (t : Typing). t.code) c.type_term-typing.ensures) in
    let a = accepted in
    let e = c.type_term-typing.ensures in
    shows_kept _ _ _ a _ e (made_for _ _ _ a _ _ _ c.in-Ok.ensures)
    (sym c.keeps_depth.ensures ∙ c.if-keeps_depth.true)

pub slice_bounds-depth_of_both-end : goal.slice_bounds-depth_of_both-end
slice_bounds-depth_of_both-end c =
    let accepted : let a = c.args in (typing_of a.ds.now a.ws.now a.n).code ≡ 0 = omega (arith, ap (λ (t : Typing). t.code) c.type_term-typing.ensures) in
    let a = accepted in
    sym (length-take-le _ _ (omega (arith, room _ _ _ a _ _ _ (made_for _ _ _ a _ _ _ c.in-Ok.ensures))))

pub slice_bounds-out-end : goal.slice_bounds-out-end
slice_bounds-out-end c =
    let accepted : let a = c.args in (typing_of a.ds.now a.ws.now a.n).code ≡ 0 = omega (arith, ap (λ (t : Typing). t.code) c.type_term-typing.ensures) in
    let a = accepted in
    room_out _ _ _ a _ _ _ (made_for _ _ _ a _ _ _ c.in-Ok.ensures)

pub slice_bounds-depth_of_both-end-2 : goal.slice_bounds-depth_of_both-end-2
slice_bounds-depth_of_both-end-2 c =
    let accepted : let a = c.args in (typing_of a.ds.now a.ws.now a.n).code ≡ 0 = omega (arith, ap (λ (t : Typing). t.code) c.type_term-typing.ensures) in
    sym (length-take-le _ _ (room_out _ _ _ accepted _ _ _ (made_for _ _ _ accepted _ _ _ c.in-Ok.ensures)))

pub depth_of_both-depth-requires : goal.depth_of_both-depth-requires
depth_of_both-depth-requires c =
    let accepted : let a = c.args in (typing_of a.ds.now a.ws.now a.n).code ≡ 0 = omega (arith, ap (λ (t : Typing). t.code) c.type_term-typing.ensures) in
    let a = accepted in
    let r = room _ _ _ a _ _ _ (made_for _ _ _ a _ _ _ c.in-Ok.ensures) in
    rw (length-take-le _ _ (room_out _ _ _ a _ _ _ (made_for _ _ _ a _ _ _ c.in-Ok.ensures)), length-take-le c.args.s.place c.args.ws.now (omega (arith, r))) (omega (arith, r, slice-size _ _ _ a))

pub returns : goal.returns
returns c =
    let accepted : let a = c.args in (typing_of a.ds.now a.ws.now a.n).code ≡ 0 = omega (arith, ap (λ (t : Typing). t.code) c.type_term-typing.ensures) in
    let a = accepted in
    let e = c.type_term-typing.ensures in
    shows_done _ _ _ a _ e (made_for _ _ _ a _ _ _ c.in-Ok.ensures)
    c.depth_of_both-depth.ensures
