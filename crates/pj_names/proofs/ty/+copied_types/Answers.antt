use Rattle.std.proofs.Common.{◌∙◌, ◌<◌, ap, arith, sym}
use Rattle.pj_names.specs.JavaType.{Argument, java_type, java_types}
use Rattle.pj_names.specs.declared.ty.Ty.TheViews.{size-Types, sized-More}
use Rattle.pj_names.proofs.Arguments.{next_in_front}
use Rattle.pj_names.proofs.ty.+copied_types.Goals as goal

pub Types::copied-arguments-preserved : goal.Types::copied-arguments-preserved
Types::copied-arguments-preserved t c =
    let falls : size-Types c.deref-rest.result.now < size-Types c.arguments.rest.now =
    omega (arith, ap size-Types c.in-More-rest.is ∙ sized-More c.in-More-rest.first c.in-More-rest.more, ap size-Types c.deref-rest.ensures)
    in (
      omega (arith, falls, c.arguments.invariant.0),
      next_in_front c.arguments.copies c.push.new.self c.in_ok-copied.field-0 (java_type c.in-More-rest.first.value) (java_types c.arguments.rest.now) (java_types c.deref-rest.result.now) _
          c.in_ok-push.ensures.ok (c.in_ok-copied.ensures ∙ ap java_type c.deref.ensures)
          (ap java_types c.in-More-rest.is ∙ ap (λ u. Argument (java_type c.in-More-rest.first.value) (java_types u)) (sym c.deref-rest.ensures))
          c.arguments.invariant.1,
    )
