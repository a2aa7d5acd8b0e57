use Rattle.std.proofs.Common.{◌≡◌, cond, [], is_ok, refl, ap, ◌∙◌}
use Rattle.home.specs.Memory.{in_bytes}
use Rattle.byte_home.specs.Bytes.{byte_check}
use Rattle.byte_home.proofs.ByteOpening.{opened}
use Rattle.byte_home.proofs.ByteHome.make.Goals as goal

pub invariant_of-result : goal.invariant_of-result
invariant_of-result g c =
    let kind = g.K.Kind in
    let passed : c.is_ok-passed.result ≡ is_ok (byte_check kind.unpacked c.args.bytes.now) = c.is_ok-passed.ensures.value ∙ ap is_ok c.check.ensures in
    record { sound = (opened kind.unpacked kind.reading g.met.K.Kind.right c.args.bytes.now _ passed).0 }

pub returns : goal.returns
returns g c =
    let kind = g.K.Kind in
    let passed : c.is_ok-passed.result ≡ is_ok (byte_check kind.unpacked c.args.bytes.now) = c.is_ok-passed.ensures.value ∙ ap is_ok c.check.ensures in
    record {
      meaning = (opened kind.unpacked kind.reading g.met.K.Kind.right c.args.bytes.now _ passed).1;
      table = (refl, refl);
      memory = ap (λ p. in_bytes c.args.bytes.ghost_name (cond p [] c.args.bytes.now)) passed;
    }
