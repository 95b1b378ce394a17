pub mod LightCone
pub mod Wide
