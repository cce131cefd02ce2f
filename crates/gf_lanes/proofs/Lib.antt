mod CombineLaws
mod LaneLaws
