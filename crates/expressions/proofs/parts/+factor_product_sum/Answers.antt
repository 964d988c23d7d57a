-- Each way is a law of Seen.antt, over the token that was read and its symbol.
use Rattle.std.proofs.Common.{◌-◌, arith}
use Rattle.std.proofs.lemmas.Result.{err_from_is_err_and}
use Rattle.expressions.proofs.Steps.{in_products, in_sums, part_first, first_fails}
use Rattle.expressions.proofs.Seen.{seen-neither, seen-number, seen-deep, seen_inside-fails, seen-shut, seen_not-shut, seen-stop, seen_fails, seen_next, seen-less}
use Rattle.expressions.proofs.parts.+factor_product_sum.Goals as goal

pub factor-returns-in-Number : goal.factor-returns-in-Number
factor-returns-in-Number t c =
    let a = c.args in
    seen-number a.s.now a.from.at c.next_token-t.ensures c.symbol_of.ensures a.room c.in-Number.is c.number_worth.ensures c.found_at.ensures

pub factor-returns-then-room-eq0 : goal.factor-returns-then-room-eq0
factor-returns-then-room-eq0 t c =
    let a = c.args in
    seen-deep a.s.now a.from.at c.next_token-t.ensures c.symbol_of.ensures a.room c.in-Opens.is c.if-room-eq0.true

pub factor-returns-in_err-inside-in-Opens : goal.factor-returns-in_err-inside-in-Opens
factor-returns-in_err-inside-in-Opens t c =
    let a = c.args in
    let p = err_from_is_err_and c.from_residual.result c.from_residual.ensures.1 in
    rw (p.1, p.2)
    (seen_inside-fails a.s.now a.from.at c.next_token-t.ensures c.symbol_of.ensures a.room c.in-Opens.is
    {room' = a.room - 1} (omega arith) _ c.in_err-inside-in-Opens.ensures)

pub factor-returns-in-Shuts : goal.factor-returns-in-Shuts
factor-returns-in-Shuts t c =
    let a = c.args in
    seen-shut a.s.now a.from.at c.next_token-t.ensures c.symbol_of.ensures a.room c.in-Opens.is
    {room' = a.room - 1} (omega arith) c.in_ok-inside-in-Opens.inside c.in_ok-inside-in-Opens.ensures
    c.next_token-shut.ensures c.symbol_of-in-Opens.ensures c.in-Shuts.is

pub factor-returns-in_default-symbol_of : goal.factor-returns-in_default-symbol_of
factor-returns-in_default-symbol_of t c =
    let a = c.args in
    seen_not-shut a.s.now a.from.at c.next_token-t.ensures c.symbol_of.ensures a.room c.in-Opens.is
    {room' = a.room - 1} (omega arith) c.in_ok-inside-in-Opens.inside c.in_ok-inside-in-Opens.ensures
    c.next_token-shut.ensures c.symbol_of-in-Opens.ensures c.in_default-symbol_of.not-Shuts

pub factor-returns-in_default : goal.factor-returns-in_default
factor-returns-in_default t c =
    let a = c.args in
    seen-neither a.s.now a.from.at c.next_token-t.ensures c.symbol_of.ensures a.room c.in_default.not-Number c.in_default.not-Opens

pub product-returns-in_err-read : goal.product-returns-in_err-read
product-returns-in_err-read t c =
    let a = c.args in
    let p = err_from_is_err_and c.from_residual.result c.from_residual.ensures.1 in
    rw (p.1, p.2) (first_fails in_products a.s.now a.from.at a.room _ c.in_err-read.ensures)

pub product-loop-o-init : goal.product-loop-o-init
product-loop-o-init t c = let a = c.args in part_first in_products a.s.now a.from.at a.room c.in_ok-read.read c.in_ok-read.ensures

pub product-returns-in_default : goal.product-returns-in_default
product-returns-in_default t c =
    let a = c.args in
    let l = c.loop-o in
    seen-stop in_products a.s.now a.from.at a.room l.read l.invariant c.next_token-mark.ensures c.symbol_of.ensures c.in_default.not-Products

pub product-returns-in_err-factor : goal.product-returns-in_err-factor
product-returns-in_err-factor t c =
    let a = c.args in
    let l = c.loop-o in
    let p = err_from_is_err_and c.from_residual-in_err-factor.result c.from_residual-in_err-factor.ensures.1 in
    rw (p.1, p.2)
    (seen_fails in_products a.s.now a.from.at a.room l.read l.invariant c.next_token-mark.ensures c.symbol_of.ensures c.in-Products.is _
    c.in_err-factor.ensures)

pub product-loop-o-smaller : goal.product-loop-o-smaller
product-loop-o-smaller t c =
    let a = c.args in
    let l = c.loop-o in
    rw c.joined-read.ensures
    (seen-less in_products a.s.now a.from.at a.room l.read l.invariant c.next_token-mark.ensures c.symbol_of.ensures c.in-Products.is
    c.in_ok-factor.field-0 c.in_ok-factor.ensures)

pub product-loop-o-preserved : goal.product-loop-o-preserved
product-loop-o-preserved t c =
    let a = c.args in
    let l = c.loop-o in
    seen_next in_products a.s.now a.from.at a.room l.read l.invariant c.next_token-mark.ensures c.symbol_of.ensures c.in-Products.is
    c.in_ok-factor.field-0 c.in_ok-factor.ensures c.joined-read.ensures

pub sum-returns-in_err-read : goal.sum-returns-in_err-read
sum-returns-in_err-read t c =
    let a = c.args in
    let p = err_from_is_err_and c.from_residual.result c.from_residual.ensures.1 in
    rw (p.1, p.2) (first_fails in_sums a.s.now a.from.at a.room _ c.in_err-read.ensures)

pub sum-loop-o-init : goal.sum-loop-o-init
sum-loop-o-init t c = let a = c.args in part_first in_sums a.s.now a.from.at a.room c.in_ok-read.read c.in_ok-read.ensures

pub sum-returns-in_default : goal.sum-returns-in_default
sum-returns-in_default t c =
    let a = c.args in
    let l = c.loop-o in
    seen-stop in_sums a.s.now a.from.at a.room l.read l.invariant c.next_token-mark.ensures c.symbol_of.ensures c.in_default.not-Sums

pub sum-returns-in_err-product : goal.sum-returns-in_err-product
sum-returns-in_err-product t c =
    let a = c.args in
    let l = c.loop-o in
    let p = err_from_is_err_and c.from_residual-in_err-product.result c.from_residual-in_err-product.ensures.1 in
    rw (p.1, p.2)
    (seen_fails in_sums a.s.now a.from.at a.room l.read l.invariant c.next_token-mark.ensures c.symbol_of.ensures c.in-Sums.is _
    c.in_err-product.ensures)

pub sum-loop-o-smaller : goal.sum-loop-o-smaller
sum-loop-o-smaller t c =
    let a = c.args in
    let l = c.loop-o in
    rw c.joined-read.ensures
    (seen-less in_sums a.s.now a.from.at a.room l.read l.invariant c.next_token-mark.ensures c.symbol_of.ensures c.in-Sums.is
    c.in_ok-product.field-0 c.in_ok-product.ensures)

pub sum-loop-o-preserved : goal.sum-loop-o-preserved
sum-loop-o-preserved t c =
    let a = c.args in
    let l = c.loop-o in
    seen_next in_sums a.s.now a.from.at a.room l.read l.invariant c.next_token-mark.ensures c.symbol_of.ensures c.in-Sums.is
    c.in_ok-product.field-0 c.in_ok-product.ensures c.joined-read.ensures
