-- `sound::queues::follow_events` meets its contract: four links in turn, then itself. Assumes nothing.
use Rattle.sound.proofs.Following.{one_link, link_more, link_last}
use Rattle.sound.proofs.queues.+follow_events.Goals as goal

pub returns-then-first-eq0 : goal.returns-then-first-eq0
returns-then-first-eq0 t c =
    let first = one_link c.event_link-first.ensures c.if-not-first.false in
    link_last _ _ _ first c.if-first-eq0.true c.last_event.ensures c.at_end.ensures

pub returns-then-second-eq0 : goal.returns-then-second-eq0
returns-then-second-eq0 t c =
    let first = one_link c.event_link-first.ensures c.if-not-first.false in
    let second = link_more first c.event_link-second.ensures c.if-not-second.false in
    link_last _ _ _ second c.if-second-eq0.true c.last_event-then-second-eq0.ensures c.at_end-then-second-eq0.ensures

pub returns-then-third-eq0 : goal.returns-then-third-eq0
returns-then-third-eq0 t c =
    let first = one_link c.event_link-first.ensures c.if-not-first.false in
    let second = link_more first c.event_link-second.ensures c.if-not-second.false in
    let third = link_more second c.event_link-third.ensures c.if-not-third.false in
    link_last _ _ _ third c.if-third-eq0.true c.last_event-then-third-eq0.ensures c.at_end-then-third-eq0.ensures

pub returns-then-fourth-eq0 : goal.returns-then-fourth-eq0
returns-then-fourth-eq0 t c =
    let first = one_link c.event_link-first.ensures c.if-not-first.false in
    let second = link_more first c.event_link-second.ensures c.if-not-second.false in
    let third = link_more second c.event_link-third.ensures c.if-not-third.false in
    let fourth = link_more third c.event_link-fourth.ensures c.if-not-fourth.false in
    link_last _ _ _ fourth c.if-fourth-eq0.true c.last_event-then-fourth-eq0.ensures c.at_end-then-fourth-eq0.ensures
