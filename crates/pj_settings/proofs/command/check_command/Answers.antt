use Rattle.std.proofs.Common.{◌≡◌, ◌∙◌, ap, ap₂, true}
use Rattle.clap.specs.Words.{App, app_of, with_rule}
use Rattle.clap.specs.Simple.{app_of_fields}
use Rattle.pj_settings.specs.Options.{bare_app, check_app}
use Rattle.pj_settings.proofs.command.check_command.Goals as goal

abbrev without_help : App → App
without_help a = record { top = record a.top { disable_help_flag = true }; subs = a.subs }

pub returns : goal.returns
unfolding check_app
returns c =
    let bare_is : app_of c.disable_help_flag.result ≡ bare_app =
    ap app_of_fields c.disable_help_flag.ensures ∙ ap without_help c.new.ensures.app in
    let one = c.in_ok-arg.ensures.shape c.dir_option-dir.ensures.local ∙ ap₂ with_rule bare_is c.dir_option-dir.ensures.rule in
    let two = c.in_ok-arg-2.ensures.shape c.rulesets_option-rulesets.ensures.local ∙ ap₂ with_rule one c.rulesets_option-rulesets.ensures.rule in
    let three = c.in_ok-arg-3.ensures.shape c.format_option-format.ensures.local ∙ ap₂ with_rule two c.format_option-format.ensures.rule in
    let four = c.in_ok-arg-4.ensures.shape c.long_option-classes.ensures.local ∙ ap₂ with_rule three c.long_option-classes.ensures.rule in
    let five = c.in_ok-arg-5.ensures.shape c.long_option-threads.ensures.local ∙ ap₂ with_rule four c.long_option-threads.ensures.rule in
    let six = c.in_ok-arg-6.ensures.shape c.long_option-minimum.ensures.local ∙ ap₂ with_rule five c.long_option-minimum.ensures.rule in
    let seven = c.in_ok-arg-7.ensures.shape c.long_option-marker.ensures.local ∙ ap₂ with_rule six c.long_option-marker.ensures.rule in
    let eight = c.in_ok-arg-8.ensures.shape c.long_option-cache.ensures.local ∙ ap₂ with_rule seven c.long_option-cache.ensures.rule in
    c.in_ok-command.ensures.shape c.long_option-version.ensures.local ∙ ap₂ with_rule eight c.long_option-version.ensures.rule
