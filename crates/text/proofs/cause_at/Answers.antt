use mathlib.Core.Path.{◌≡◌, sym, ◌∙◌}
use Rattle.rules.specs.Words.{within}
use Rattle.wire.proofs.Decoding.{contained}
use Rattle.text.proofs.TypingLaws.{cause-in, cause-out}
use Rattle.text.proofs.cause_at.Goals as goal

pub returns-then-contains : goal.returns-then-contains
returns-then-contains c =
    let n = c.byte_at-n.result in
    let told : c.contains.result ≡ within 1 8 n = c.contains.ensures.value ∙ rw (c.new.ensures.start, c.new.ensures.end, c.new.ensures.exhausted) (contained 1 8 n) in
    rw (sym c.byte_at-n.ensures) (sym (cause-in n (sym told ∙ c.if-contains.true)))

pub returns-else-contains : goal.returns-else-contains
returns-else-contains c =
    let n = c.byte_at-n.result in
    let told : c.contains.result ≡ within 1 8 n = c.contains.ensures.value ∙ rw (c.new.ensures.start, c.new.ensures.end, c.new.ensures.exhausted) (contained 1 8 n) in
    rw (sym c.byte_at-n.ensures) (sym (cause-out n (sym told ∙ c.if-contains.false)))
